-- `Registers::update` meets its contract.
use native.Mathlib.Omega.{arith}
use Rattle.walker.proofs.Registers.update.Goals as goal

pub returns-then-n-loc : goal.returns-then-n-loc
returns-then-n-loc c = absurd (omega (arith, c.if-n-loc.true, c.requires.1, c.requires.2))

pub returns : goal.returns
returns c = simp (c.tell.ensures, c.requires.2)
