-- `reader::read_gives` meets its contract.
use mathlib.Core.Path.{refl}
use native.Mathlib.Omega.{arith}
use Rattle.reader.proofs.Laws.{ends, gives, no, passes, yes}
use Rattle.syntax.specs.Reading.{optional}
use Rattle.reader.proofs.read_gives.Goals as goal

pub returns-then-w-ne-TWICE : goal.returns-then-w-ne-TWICE
unfolding optional
returns-then-w-ne-TWICE c = record { low = omega arith; high = omega arith; tells = λ k h. no _ _ _ c.look-w.ensures c.if-w-ne-TWICE.true (gives refl) }

pub returns : goal.returns
unfolding optional
returns c = record { low = omega arith; high = omega arith; tells = λ k h. yes _ _ _ c.look-w.ensures c.if-w-ne-TWICE.false (passes _ c.look-w.ensures (omega arith) (ends _ (c.read_name.ensures.reads.tells k (omega arith)))) }
