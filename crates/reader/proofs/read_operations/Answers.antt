-- `reader::read_operations` meets its contract.
use Rattle.std.proofs.lemmas.Result.{err_from_is_err_and}
use Rattle.reader.proofs.Laws.{operates-none}
use Rattle.reader.proofs.Laws.{not_none}
use mathlib.Core.List.{[], ◌∷◌}
use mathlib.Core.Path.{◌≡◌, refl}
use Prim.Native.Nat.{◌-◌}
use native.Mathlib.Omega.{arith}
use Rattle.reader.proofs.Laws.{ends_with, faulty, fueled-with, gives-with, goes_with, no-with, passes-with, stops, yes-with}
use Rattle.reader.proofs.SectionLaws.{kinds-then, operated-more, operated-one}
use Rattle.reader.specs.Counting.{Operated}
use Rattle.syntax.specs.Sections.{some_operations}
use Rattle.reader.proofs.read_operations.Goals as goal

pub loop-a-init : goal.loop-a-init
loop-a-init c = (omega arith, omega arith, λ o n t e. e)

pub returns-in_err-a : goal.returns-in_err-a
unfolding some_operations
returns-in_err-a c = let p = err_from_is_err_and c.from_residual.result c.from_residual.ensures.1 in rw (p.1, p.2) (operates-none _ (c.loop-a.invariant.2 _ 0 c.loop-a.counts (record { low = omega (arith, c.in_err-a.ensures.low, c.in_err-a.ensures.high); high = omega (arith, c.in_err-a.ensures.low, c.in_err-a.ensures.high); past = λ e. absurd ((not_none _) e); brings = λ is z. fueled-with (λ k. some_operations k c.loop-a.names is) (omega (arith, c.in_err-a.ensures.low, c.in_err-a.ensures.high)) (λ j h. faulty (stops _ (c.in_err-a.ensures.brings is z).tells (not_none _)) (not_none _)) })))

pub returns-then-w-eq-SEMICOLON : goal.returns-then-w-eq-SEMICOLON
unfolding some_operations
returns-then-w-eq-SEMICOLON c = c.loop-a.invariant.2 _ _ _ (record { low = omega (arith, c.in_ok-a.ensures.low, c.in_ok-a.ensures.high, c.in_ok-a.ensures.past refl, c.in_ok-a.ensures.some refl); high = omega (arith, c.in_ok-a.ensures.low, c.in_ok-a.ensures.high, c.in_ok-a.ensures.past refl, c.in_ok-a.ensures.some refl); past = λ e. omega (arith, c.in_ok-a.ensures.low, c.in_ok-a.ensures.high, c.in_ok-a.ensures.past refl, c.in_ok-a.ensures.some refl, c.in_ok-a.ensures.past refl); brings = λ is z. fueled-with (λ k. some_operations k c.loop-a.names is) (omega (arith, c.in_ok-a.ensures.low, c.in_ok-a.ensures.high, c.in_ok-a.ensures.past refl, c.in_ok-a.ensures.some refl)) (λ j h. goes_with _ (c.in_ok-a.ensures.brings is z) refl (λ a e. ends_with {P = λ os. os ≡ []} _ (yes-with _ _ _ c.look-w.ensures c.if-w-eq-SEMICOLON.true (passes-with _ c.look-w.ensures (omega (arith, c.in_ok-a.ensures.low, c.in_ok-a.ensures.high, c.in_ok-a.ensures.past refl, c.in_ok-a.ensures.some refl)) (gives-with refl refl))) (λ os q. operated-one c.loop-a.names c.loop-a.counts _ a os e q))) })

pub loop-a-smaller : goal.loop-a-smaller
loop-a-smaller c = omega (arith, c.in_ok-a.ensures.low, c.in_ok-a.ensures.high, c.in_ok-a.ensures.past refl, c.in_ok-a.ensures.some refl, c.in_ok-a.ensures.past refl)

pub loop-a-preserved : goal.loop-a-preserved
unfolding some_operations
loop-a-preserved c = (omega (arith, c.in_ok-a.ensures.low, c.in_ok-a.ensures.high, c.in_ok-a.ensures.past refl, c.in_ok-a.ensures.some refl), omega (arith, c.in_ok-a.ensures.low, c.in_ok-a.ensures.high, c.in_ok-a.ensures.past refl, c.in_ok-a.ensures.some refl), λ o n t u. c.loop-a.invariant.2 o n t (record { low = omega (arith, c.in_ok-a.ensures.low, c.in_ok-a.ensures.high, c.in_ok-a.ensures.past refl, c.in_ok-a.ensures.some refl, u.low); high = u.high; past = λ e. omega (arith, c.in_ok-a.ensures.low, c.in_ok-a.ensures.high, c.in_ok-a.ensures.past refl, c.in_ok-a.ensures.some refl, u.low, c.in_ok-a.ensures.past refl); brings = λ is z. fueled-with (λ k. some_operations k c.loop-a.names is) (omega (arith, c.in_ok-a.ensures.low, c.in_ok-a.ensures.high, c.in_ok-a.ensures.past refl, c.in_ok-a.ensures.some refl)) (λ j h. goes_with _ (c.in_ok-a.ensures.brings is z) refl (λ a e. ends_with {P = Operated (c.loop-a.names - 1) n c.in_ok-a.a.seen t} _ (no-with _ _ _ c.look-w.ensures c.if-w-eq-SEMICOLON.false (u.brings (a.instruction ∷ is) (kinds-then (a.instruction ∷ []) is c.loop-a.counts c.in_ok-a.a.seen z e) j (omega (arith, c.in_ok-a.ensures.low, c.in_ok-a.ensures.high, c.in_ok-a.ensures.past refl, c.in_ok-a.ensures.some refl, c.in_ok-a.ensures.past refl)))) (λ os q. operated-more c.loop-a.names n c.loop-a.counts c.in_ok-a.a.seen t a os e q))) }))
