-- `reader::read_entry` meets its contract.
use Rattle.std.proofs.lemmas.Result.{err_from_is_err_and}
use Rattle.reader.proofs.Laws.{not_none}
use mathlib.Core.Path.{refl}
use Prim.Native.Nat.{suc}
use native.Mathlib.Omega.{arith}
use Rattle.reader.proofs.Laws.{any_value, ends_with, faulty, goes, goes-from, goes_with, stops}
use Rattle.reader.proofs.SectionLaws.{count-on, count-over, count_set}
use Rattle.syntax.specs.Sections.{an_entry}
use Rattle.reader.proofs.read_entry.Goals as goal

pub returns-in_err-o : goal.returns-in_err-o
unfolding an_entry
returns-in_err-o c = let p = err_from_is_err_and c.from_residual.result c.from_residual.ensures.1 in rw (p.1, p.2) (record { yields = record { low = omega (arith, c.in_err-o.ensures.yields.low, c.in_err-o.ensures.yields.high); high = omega (arith, c.in_err-o.ensures.yields.low, c.in_err-o.ensures.yields.high); past = λ e. absurd ((not_none _) e); brings = λ k h. faulty (stops _ (c.in_err-o.ensures.yields.brings k h).tells (not_none _)) (not_none _) }; some = λ e. absurd ((not_none _) e); small = omega (arith, c.in_err-o.ensures.yields.low, c.in_err-o.ensures.yields.high) })

pub returns-then-e-eq-EQUALS : goal.returns-then-e-eq-EQUALS
unfolding an_entry
returns-then-e-eq-EQUALS c = record { yields = record { low = omega (arith, c.in_ok-o.ensures.yields.low, c.in_ok-o.ensures.yields.high, c.in_ok-o.ensures.yields.past refl, c.in_ok-o.ensures.some refl); high = omega (arith, c.in_ok-o.ensures.yields.low, c.in_ok-o.ensures.yields.high, c.in_ok-o.ensures.yields.past refl, c.in_ok-o.ensures.some refl); past = λ e. omega (arith, c.in_ok-o.ensures.yields.low, c.in_ok-o.ensures.yields.high, c.in_ok-o.ensures.yields.past refl, c.in_ok-o.ensures.some refl, c.in_ok-o.ensures.yields.past refl); brings = λ k h. goes_with _ (c.in_ok-o.ensures.yields.brings k h) refl (λ a e. goes_with _ (any_value (c.read_spelling-s.ensures.tells (suc k) (omega (arith, c.in_ok-o.ensures.yields.low, c.in_ok-o.ensures.yields.high, c.in_ok-o.ensures.yields.past refl, c.in_ok-o.ensures.some refl)))) refl (λ s _. ends_with _ (count_set a _ c.look-e.ensures c.if-e-eq-EQUALS.true (c.read_number.ensures.yields.brings k (omega (arith, c.in_ok-o.ensures.yields.low, c.in_ok-o.ensures.yields.high, c.in_ok-o.ensures.yields.past refl, c.in_ok-o.ensures.some refl)))) (λ n e. e))) }; some = λ e. c.in_ok-o.ensures.some refl; small = c.read_number.ensures.small }

pub returns-then-v-gt-GREATEST_VALUE : goal.returns-then-v-gt-GREATEST_VALUE
unfolding an_entry
returns-then-v-gt-GREATEST_VALUE c = record { yields = record { low = omega (arith, c.in_ok-o.ensures.yields.low, c.in_ok-o.ensures.yields.high, c.in_ok-o.ensures.yields.past refl, c.in_ok-o.ensures.some refl); high = omega (arith, c.in_ok-o.ensures.yields.low, c.in_ok-o.ensures.yields.high, c.in_ok-o.ensures.yields.past refl, c.in_ok-o.ensures.some refl); past = λ e. absurd (omega (arith, c.in_ok-o.ensures.yields.low, c.in_ok-o.ensures.yields.high, c.in_ok-o.ensures.yields.past refl, c.in_ok-o.ensures.some refl)); brings = λ k h. faulty (goes-from _ (c.in_ok-o.ensures.yields.brings k h) refl (λ a e. goes _ (c.read_spelling-s.ensures.tells (suc k) (omega (arith, c.in_ok-o.ensures.yields.low, c.in_ok-o.ensures.yields.high, c.in_ok-o.ensures.yields.past refl, c.in_ok-o.ensures.some refl))) refl (λ s. stops _ (count-over a _ c.look-e.ensures c.if-e-eq-EQUALS.false c.if-v-gt-GREATEST_VALUE.true e c.look-w.ensures c.over.ensures) (λ z. omega (arith, c.in_ok-o.ensures.yields.low, c.in_ok-o.ensures.yields.high, c.in_ok-o.ensures.yields.past refl, c.in_ok-o.ensures.some refl))))) (λ z. omega (arith, c.in_ok-o.ensures.yields.low, c.in_ok-o.ensures.yields.high, c.in_ok-o.ensures.yields.past refl, c.in_ok-o.ensures.some refl)) }; some = λ e. absurd (omega (arith, c.in_ok-o.ensures.yields.low, c.in_ok-o.ensures.yields.high, c.in_ok-o.ensures.yields.past refl, c.in_ok-o.ensures.some refl)); small = omega (arith, c.in_ok-o.ensures.yields.low, c.in_ok-o.ensures.yields.high, c.in_ok-o.ensures.yields.past refl, c.in_ok-o.ensures.some refl) }

pub returns : goal.returns
unfolding an_entry
returns c = record { yields = record { low = omega (arith, c.in_ok-o.ensures.yields.low, c.in_ok-o.ensures.yields.high, c.in_ok-o.ensures.yields.past refl, c.in_ok-o.ensures.some refl); high = omega (arith, c.in_ok-o.ensures.yields.low, c.in_ok-o.ensures.yields.high, c.in_ok-o.ensures.yields.past refl, c.in_ok-o.ensures.some refl); past = λ e. omega (arith, c.in_ok-o.ensures.yields.low, c.in_ok-o.ensures.yields.high, c.in_ok-o.ensures.yields.past refl, c.in_ok-o.ensures.some refl, c.in_ok-o.ensures.yields.past refl); brings = λ k h. goes_with _ (c.in_ok-o.ensures.yields.brings k h) refl (λ a e. goes_with _ (any_value (c.read_spelling-s.ensures.tells (suc k) (omega (arith, c.in_ok-o.ensures.yields.low, c.in_ok-o.ensures.yields.high, c.in_ok-o.ensures.yields.past refl, c.in_ok-o.ensures.some refl)))) refl (λ s _. ends_with _ (count-on a _ c.look-e.ensures c.if-e-eq-EQUALS.false c.if-v-gt-GREATEST_VALUE.false refl refl) (λ n e. e))) }; some = λ e. c.in_ok-o.ensures.some refl; small = omega (arith, c.in_ok-o.ensures.yields.low, c.in_ok-o.ensures.yields.high, c.in_ok-o.ensures.yields.past refl, c.in_ok-o.ensures.some refl) }
