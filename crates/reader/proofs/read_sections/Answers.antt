-- `reader::read_sections` meets its contract.
use Rattle.std.proofs.lemmas.Result.{err_from_is_err_and}
use Rattle.reader.proofs.Laws.{sections-none}
use Rattle.reader.proofs.Laws.{not_none}
use mathlib.Core.Path.{refl, sym}
use native.Mathlib.Omega.{arith}
use Rattle.reader.proofs.Laws.{ends_with, faulty, fueled-with, gives-with, goes_with, no, no-with, stops, yes-with}
use Rattle.syntax.specs.Sections.{after, some_sections}
use Rattle.reader.proofs.read_sections.Goals as goal

pub loop-sofar-init : goal.loop-sofar-init
loop-sofar-init c = (omega arith, omega arith, λ o n e. e)

pub returns-then-w-eq-RULES : goal.returns-then-w-eq-RULES
unfolding some_sections
returns-then-w-eq-RULES c = c.loop-sofar.invariant.2 _ _ (record { low = omega arith; high = omega arith; brings = λ s q. fueled-with (λ k. some_sections k s) (omega arith) (λ j h. yes-with _ _ _ c.look-w.ensures c.if-w-eq-RULES.true (gives-with refl (sym q.left))) })

pub returns-in_err-x : goal.returns-in_err-x
unfolding some_sections
returns-in_err-x c = let p = err_from_is_err_and c.from_residual.result c.from_residual.ensures.1 in rw (p.1, p.2) (sections-none _ (c.loop-sofar.invariant.2 _ 0 (record { low = omega (arith, c.in_err-x.ensures.low, c.in_err-x.ensures.high); high = omega (arith, c.in_err-x.ensures.low, c.in_err-x.ensures.high); brings = λ s q. fueled-with (λ k. some_sections k s) (omega (arith, c.in_err-x.ensures.low, c.in_err-x.ensures.high)) (λ j h. faulty (no _ _ _ c.look-w.ensures c.if-w-eq-RULES.false (stops _ (c.in_err-x.ensures.brings s q j (omega (arith, c.in_err-x.ensures.low, c.in_err-x.ensures.high))).tells (not_none _))) (not_none _)) })))

pub loop-sofar-smaller : goal.loop-sofar-smaller
loop-sofar-smaller c = omega (arith, c.in_ok-x.ensures.low, c.in_ok-x.ensures.high, c.in_ok-x.ensures.past refl, c.in_ok-x.ensures.past refl)

pub loop-sofar-preserved : goal.loop-sofar-preserved
unfolding some_sections
loop-sofar-preserved c = (omega (arith, c.in_ok-x.ensures.low, c.in_ok-x.ensures.high, c.in_ok-x.ensures.past refl), omega (arith, c.in_ok-x.ensures.low, c.in_ok-x.ensures.high, c.in_ok-x.ensures.past refl), λ o n u. c.loop-sofar.invariant.2 o n (record { low = omega (arith, c.in_ok-x.ensures.low, c.in_ok-x.ensures.high, c.in_ok-x.ensures.past refl, u.low); high = u.high; brings = λ s q. fueled-with (λ k. some_sections k s) (omega (arith, c.in_ok-x.ensures.low, c.in_ok-x.ensures.high, c.in_ok-x.ensures.past refl)) (λ j h. no-with _ _ _ c.look-w.ensures c.if-w-eq-RULES.false (goes_with _ (c.in_ok-x.ensures.brings s q j (omega (arith, c.in_ok-x.ensures.low, c.in_ok-x.ensures.high, c.in_ok-x.ensures.past refl))) refl (λ x e. ends_with _ (u.brings (after s x) e j (omega (arith, c.in_ok-x.ensures.low, c.in_ok-x.ensures.high, c.in_ok-x.ensures.past refl, c.in_ok-x.ensures.past refl))) (λ m z. z)))) }))
