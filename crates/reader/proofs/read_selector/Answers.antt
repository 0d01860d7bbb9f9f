-- `reader::read_selector` meets its contract.
use mathlib.Core.Path.{refl}
use native.Mathlib.Omega.{arith}
use Rattle.reader.proofs.Laws.{constants, ends, gives, no, passes, yes}
use Rattle.syntax.specs.Actions.{a_selector}
use Rattle.reader.proofs.read_selector.Goals as goal

pub returns-then-w-eq-AT : goal.returns-then-w-eq-AT
unfolding a_selector
returns-then-w-eq-AT c = record { low = omega arith; high = omega arith; tells = λ k h. yes _ _ _ c.look-w.ensures c.if-w-eq-AT.true (passes _ c.look-w.ensures (omega arith) (ends _ (c.read_name.ensures.reads.tells k (omega arith)))) }

pub returns-then-w-eq-NAME : goal.returns-then-w-eq-NAME
unfolding a_selector
returns-then-w-eq-NAME c = record { low = omega arith; high = omega arith; tells = λ k h. no _ _ _ c.look-w.ensures c.if-w-eq-AT.false (yes _ _ _ c.look-w.ensures c.if-w-eq-NAME.true (constants _ _ (c.with_constant.ensures.reads.tells k h))) }

pub returns : goal.returns
unfolding a_selector
returns c = record { low = omega arith; high = omega arith; tells = λ k h. no _ _ _ c.look-w.ensures c.if-w-eq-AT.false (no _ _ _ c.look-w.ensures c.if-w-eq-NAME.false (gives refl)) }
