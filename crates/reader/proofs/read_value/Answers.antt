-- `reader::read_value` meets its contract.
use mathlib.Core.Path.{refl}
use native.Mathlib.Omega.{arith}
use Rattle.reader.proofs.Laws.{ends, gives, no, passes, yes}
use Rattle.syntax.specs.Actions.{a_value}
use Rattle.reader.proofs.read_value.Goals as goal

pub returns-then-w-eq-NAME : goal.returns-then-w-eq-NAME
unfolding a_value
returns-then-w-eq-NAME c = let named = c.check_name.ensures _ _ c.look-w.ensures in record { low = omega arith; high = omega arith; tells = λ k h. yes _ _ _ c.look-w.ensures c.if-w-eq-NAME.true (ends _ (named.reads.tells k h)) }

pub returns-then-w-eq-STRING : goal.returns-then-w-eq-STRING
unfolding a_value
returns-then-w-eq-STRING c = record { low = omega arith; high = omega arith; tells = λ k h. no _ _ _ c.look-w.ensures c.if-w-eq-NAME.false (yes _ _ _ c.look-w.ensures c.if-w-eq-STRING.true (passes _ c.look-w.ensures (omega arith) (gives refl))) }

pub returns : goal.returns
unfolding a_value
returns c = record { low = omega arith; high = omega arith; tells = λ k h. no _ _ _ c.look-w.ensures c.if-w-eq-NAME.false (no _ _ _ c.look-w.ensures c.if-w-eq-STRING.false (gives refl)) }
