-- `reader::expect_word` meets its contract.
use mathlib.Core.Path.{refl}
use native.Mathlib.Omega.{arith}
use Rattle.reader.proofs.Laws.{no, passed, refuses, yes}
use Rattle.syntax.specs.Reading.{expect}
use Rattle.reader.proofs.expect_word.Goals as goal

pub returns-then-w-kind : goal.returns-then-w-kind
unfolding expect
returns-then-w-kind c = record { low = omega arith; high = omega arith; tells = λ k h. yes _ _ _ c.look-w.ensures c.if-w-kind.true (passed c.look-w.ensures (omega arith) refl refl) }

pub returns-else-w-kind : goal.returns-else-w-kind
unfolding expect
returns-else-w-kind c = record { low = omega arith; high = omega arith; tells = λ k h. no _ _ _ c.look-w.ensures c.if-w-kind.false (refuses c.look-w.ensures c.refused.ensures) }
