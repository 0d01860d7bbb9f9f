-- `objects::operand` meets its contract.
use native.Mathlib.Omega.{arith}
use mathlib.Core.Path.{refl}
use Rattle.objects.proofs.Told.{operand-none, operand-some}
use Rattle.objects.proofs.operand.Goals as goal

pub returns-then-spot : goal.returns-then-spot
returns-then-spot c = λ words. operand-none words c.if-spot.true refl

pub returns : goal.returns
returns c = λ words. operand-some words (omega arith) (rw c.ahead.ensures.0 at c.passed.ensures)
