-- `reader::read_operator_section` meets its contract.
use Rattle.std.proofs.lemmas.Result.{err_from_is_err_and}
use Rattle.reader.proofs.Laws.{not_none}
use mathlib.Core.Path.{refl}
use native.Mathlib.Omega.{arith}
use Rattle.reader.proofs.Laws.{any_value, ends_with, faulty, goes, goes_with, stops}
use Rattle.reader.proofs.SectionLaws.{kept-operators, name-as}
use Rattle.syntax.specs.Sections.{operator_section}
use Rattle.reader.proofs.read_operator_section.Goals as goal

pub returns-in_err-o : goal.returns-in_err-o
unfolding operator_section
returns-in_err-o c = let p = err_from_is_err_and c.from_residual.result c.from_residual.ensures.1 in rw (p.1, p.2) (record { low = omega (arith, c.in_err-o.ensures.yields.low, c.in_err-o.ensures.yields.high); high = omega (arith, c.in_err-o.ensures.yields.low, c.in_err-o.ensures.yields.high); past = λ e. absurd ((not_none _) e); brings = λ s q k h. faulty (stops _ (name-as _ _ _ q.left (c.in_err-o.ensures.yields.brings k h)).tells (not_none _)) (not_none _) })

pub returns-in_err-c : goal.returns-in_err-c
unfolding operator_section
returns-in_err-c c = let p = err_from_is_err_and c.from_residual-in_err-c.result c.from_residual-in_err-c.ensures.1 in rw (p.1, p.2) (record { low = omega (arith, c.in_ok-o.ensures.yields.low, c.in_err-c.ensures.low, c.in_err-c.ensures.high); high = omega (arith, c.in_ok-o.ensures.yields.low, c.in_err-c.ensures.low, c.in_err-c.ensures.high); past = λ e. absurd ((not_none _) e); brings = λ s q k h. faulty (goes _ (name-as _ _ _ q.left (c.in_ok-o.ensures.yields.brings k h)).tells refl (λ a. stops _ (c.in_err-c.ensures.tells k (omega (arith, c.in_ok-o.ensures.yields.low, c.in_ok-o.ensures.yields.high, c.in_ok-o.ensures.yields.past refl, c.in_ok-o.ensures.some refl, c.in_err-c.ensures.low, c.in_err-c.ensures.high))) (not_none _))) (not_none _) })

pub returns : goal.returns
unfolding operator_section
returns c = record { low = omega (arith, c.in_ok-o.ensures.yields.low, c.in_ok-o.ensures.yields.high, c.in_ok-o.ensures.yields.past refl, c.in_ok-o.ensures.some refl, c.in_ok-c.ensures.low, c.in_ok-c.ensures.high, c.in_ok-r.ensures.reads.low, c.in_ok-r.ensures.reads.high, c.in_ok-r.ensures.past refl, c.in_ok-o.ensures.yields.low, c.in_ok-c.ensures.low, c.in_ok-r.ensures.reads.low); high = omega (arith, c.in_ok-o.ensures.yields.low, c.in_ok-o.ensures.yields.high, c.in_ok-o.ensures.yields.past refl, c.in_ok-o.ensures.some refl, c.in_ok-c.ensures.low, c.in_ok-c.ensures.high, c.in_ok-r.ensures.reads.low, c.in_ok-r.ensures.reads.high, c.in_ok-r.ensures.past refl, c.in_ok-o.ensures.yields.low, c.in_ok-c.ensures.low, c.in_ok-r.ensures.reads.low); past = λ e. omega (arith, c.in_ok-o.ensures.yields.low, c.in_ok-o.ensures.yields.high, c.in_ok-o.ensures.yields.past refl, c.in_ok-o.ensures.some refl, c.in_ok-c.ensures.low, c.in_ok-c.ensures.high, c.in_ok-r.ensures.reads.low, c.in_ok-r.ensures.reads.high, c.in_ok-r.ensures.past refl, c.in_ok-o.ensures.yields.low, c.in_ok-c.ensures.low, c.in_ok-r.ensures.past e); brings = λ s q k h. goes_with _ (name-as _ _ _ q.left (c.in_ok-o.ensures.yields.brings k h)) refl (λ w _. goes_with _ (any_value (c.in_ok-c.ensures.tells k (omega (arith, c.in_ok-o.ensures.yields.low, c.in_ok-o.ensures.yields.high, c.in_ok-o.ensures.yields.past refl, c.in_ok-o.ensures.some refl, c.in_ok-c.ensures.low, c.in_ok-c.ensures.high, c.in_ok-r.ensures.reads.low, c.in_ok-r.ensures.reads.high, c.in_ok-r.ensures.past refl)))) refl (λ d _. ends_with _ (any_value (c.in_ok-r.ensures.reads.tells k (omega (arith, c.in_ok-o.ensures.yields.low, c.in_ok-o.ensures.yields.high, c.in_ok-o.ensures.yields.past refl, c.in_ok-o.ensures.some refl, c.in_ok-c.ensures.low, c.in_ok-c.ensures.high, c.in_ok-r.ensures.reads.low, c.in_ok-r.ensures.reads.high, c.in_ok-r.ensures.past refl, c.in_ok-o.ensures.yields.low, c.in_ok-c.ensures.low)))) (λ os z. kept-operators s c.args.state w os q))) }

pub returns-in_err-r : goal.returns-in_err-r
unfolding operator_section
returns-in_err-r c = let p = err_from_is_err_and c.from_residual-in_err-r.result c.from_residual-in_err-r.ensures.1 in rw (p.1, p.2) (record { low = omega (arith, c.in_ok-o.ensures.yields.low, c.in_ok-o.ensures.yields.high, c.in_ok-o.ensures.yields.past refl, c.in_ok-o.ensures.some refl, c.in_ok-c.ensures.low, c.in_ok-c.ensures.high, c.in_err-r.ensures.reads.low, c.in_err-r.ensures.reads.high, c.in_ok-o.ensures.yields.low, c.in_ok-c.ensures.low, c.in_err-r.ensures.reads.low); high = omega (arith, c.in_ok-o.ensures.yields.low, c.in_ok-o.ensures.yields.high, c.in_ok-o.ensures.yields.past refl, c.in_ok-o.ensures.some refl, c.in_ok-c.ensures.low, c.in_ok-c.ensures.high, c.in_err-r.ensures.reads.low, c.in_err-r.ensures.reads.high, c.in_ok-o.ensures.yields.low, c.in_ok-c.ensures.low, c.in_err-r.ensures.reads.low); past = λ e. absurd (not_none _ e); brings = λ s q k h. goes_with _ (name-as _ _ _ q.left (c.in_ok-o.ensures.yields.brings k h)) refl (λ w _. goes_with _ (any_value (c.in_ok-c.ensures.tells k (omega (arith, c.in_ok-o.ensures.yields.low, c.in_ok-o.ensures.yields.high, c.in_ok-o.ensures.yields.past refl, c.in_ok-o.ensures.some refl, c.in_ok-c.ensures.low, c.in_ok-c.ensures.high, c.in_err-r.ensures.reads.low, c.in_err-r.ensures.reads.high)))) refl (λ d _. ends_with _ (any_value (c.in_err-r.ensures.reads.tells k (omega (arith, c.in_ok-o.ensures.yields.low, c.in_ok-o.ensures.yields.high, c.in_ok-o.ensures.yields.past refl, c.in_ok-o.ensures.some refl, c.in_ok-c.ensures.low, c.in_ok-c.ensures.high, c.in_err-r.ensures.reads.low, c.in_err-r.ensures.reads.high, c.in_ok-o.ensures.yields.low, c.in_ok-c.ensures.low)))) (λ os z. tt))) })
