-- `reader::read_types` meets its contract.
use Rattle.std.proofs.lemmas.Result.{err_from_is_err_and}
use Rattle.reader.proofs.Laws.{not_none}
use mathlib.Core.Path.{refl}
use native.Mathlib.Omega.{arith}
use Rattle.reader.proofs.Laws.{faulty, goes_with, stops}
use Rattle.reader.proofs.SectionLaws.{values-read, name-as}
use Rattle.reader.specs.Counting.{type_section}
use Rattle.reader.proofs.read_types.Goals as goal

pub returns-in_err-o : goal.returns-in_err-o
unfolding type_section
returns-in_err-o c = let p = err_from_is_err_and c.from_residual.result c.from_residual.ensures.1 in rw (p.1, p.2) (record { low = omega (arith, c.in_err-o.ensures.yields.low, c.in_err-o.ensures.yields.high); high = omega (arith, c.in_err-o.ensures.yields.low, c.in_err-o.ensures.yields.high); past = λ e. absurd ((not_none _) e); brings = λ s q k h. faulty (stops _ (name-as _ _ _ q.left (c.in_err-o.ensures.yields.brings k h)).tells (not_none _)) (not_none _) })

pub returns : goal.returns
unfolding type_section
returns c = record { low = omega (arith, c.in_ok-o.ensures.yields.low, c.in_ok-o.ensures.yields.high, c.in_ok-o.ensures.yields.past refl, c.in_ok-o.ensures.some refl, c.in_ok-e.ensures.low, c.in_ok-e.ensures.high, c.in_ok-e.ensures.past refl); high = omega (arith, c.in_ok-o.ensures.yields.low, c.in_ok-o.ensures.yields.high, c.in_ok-o.ensures.yields.past refl, c.in_ok-o.ensures.some refl, c.in_ok-e.ensures.low, c.in_ok-e.ensures.high, c.in_ok-e.ensures.past refl); past = λ e. omega (arith, c.in_ok-o.ensures.yields.low, c.in_ok-o.ensures.yields.high, c.in_ok-o.ensures.yields.past refl, c.in_ok-o.ensures.some refl, c.in_ok-e.ensures.low, c.in_ok-e.ensures.high, c.in_ok-e.ensures.past refl, c.in_ok-e.ensures.past e); brings = λ s q k h. goes_with _ (name-as _ _ _ q.left (c.in_ok-o.ensures.yields.brings k h)) refl (λ w _. values-read s c.args.state k _ _ w _ q (c.in_ok-e.ensures.brings k (omega (arith, c.in_ok-o.ensures.yields.low, c.in_ok-o.ensures.yields.high, c.in_ok-o.ensures.yields.past refl, c.in_ok-o.ensures.some refl, c.in_ok-e.ensures.low, c.in_ok-e.ensures.high, c.in_ok-e.ensures.past refl)))) }

pub returns-in_err-e : goal.returns-in_err-e
unfolding type_section
returns-in_err-e c = let p = err_from_is_err_and c.from_residual-in_err-e.result c.from_residual-in_err-e.ensures.1 in rw (p.1, p.2) (record { low = omega (arith, c.in_ok-o.ensures.yields.low, c.in_ok-o.ensures.yields.high, c.in_ok-o.ensures.yields.past refl, c.in_ok-o.ensures.some refl, c.in_err-e.ensures.low, c.in_err-e.ensures.high); high = omega (arith, c.in_ok-o.ensures.yields.low, c.in_ok-o.ensures.yields.high, c.in_ok-o.ensures.yields.past refl, c.in_ok-o.ensures.some refl, c.in_err-e.ensures.low, c.in_err-e.ensures.high); past = λ e. absurd (not_none _ e); brings = λ s q k h. faulty (goes_with _ (name-as _ _ _ q.left (c.in_ok-o.ensures.yields.brings k h)) refl (λ w _. values-read s c.args.state k 0 0 w _ q (faulty (c.in_err-e.ensures.brings k (omega (arith, c.in_ok-o.ensures.yields.low, c.in_ok-o.ensures.yields.high, c.in_ok-o.ensures.yields.past refl, c.in_ok-o.ensures.some refl, c.in_err-e.ensures.low, c.in_err-e.ensures.high))).tells (not_none _)))).tells (not_none _) })
