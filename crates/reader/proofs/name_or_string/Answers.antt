-- `reader::name_or_string` meets its contract.
use mathlib.Core.Path.{refl}
use native.Mathlib.Omega.{arith}
use Rattle.reader.proofs.Laws.{no, passed, yes}
use Rattle.syntax.specs.Reading.{name_or_string}
use Rattle.reader.proofs.name_or_string.Goals as goal

pub returns-then-w-eq-STRING : goal.returns-then-w-eq-STRING
unfolding name_or_string
returns-then-w-eq-STRING c = record { reads = record { low = omega arith; high = omega arith; tells = λ k h. yes _ _ _ c.look-w.ensures c.if-w-eq-STRING.true (passed c.look-w.ensures (omega arith) refl refl) }; past = λ e. omega (arith, c.look-w.ensures.moves (omega arith)) }

pub returns : goal.returns
unfolding name_or_string
returns c = let named = c.check_name.ensures _ _ c.look-w.ensures in record { reads = record { low = omega arith; high = omega arith; tells = λ k h. no _ _ _ c.look-w.ensures c.if-w-eq-STRING.false (named.reads.tells k h) }; past = named.past }
