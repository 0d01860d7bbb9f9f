-- `reader::read_entries` meets its contract.
use Rattle.reader.proofs.Laws.{max-is}
use mathlib.Core.Path.{◌∙◌}
use Rattle.std.proofs.lemmas.Result.{err_from_is_err_and}
use Rattle.reader.proofs.Laws.{yields-none}
use Rattle.reader.proofs.Laws.{not_none}
use mathlib.Core.List.{[]}
use mathlib.Core.Path.{◌≡◌, refl}
use Prim.Native.Nat.{suc, ◌-◌}
use native.Mathlib.Omega.{arith}
use Rattle.reader.proofs.Laws.{ends_with, faulty, fueled-with, gives-with, goes_with, no-with, passes-with, stops, yes-with}
use Rattle.reader.proofs.SectionLaws.{entered-more, entered-one}
use Rattle.reader.specs.Counting.{Entered}
use Rattle.syntax.specs.Sections.{entries}
use Rattle.reader.proofs.read_entries.Goals as goal

pub loop-e-init : goal.loop-e-init
loop-e-init c = (omega arith, omega arith, λ o n t e. e)

pub returns-in_err-e : goal.returns-in_err-e
unfolding entries
returns-in_err-e c = let p = err_from_is_err_and c.from_residual.result c.from_residual.ensures.1 in rw (p.1, p.2) (yields-none _ (c.loop-e.invariant.2 _ 0 0 (record { low = omega (arith, c.in_err-e.ensures.yields.low, c.in_err-e.ensures.yields.high); high = omega (arith, c.in_err-e.ensures.yields.low, c.in_err-e.ensures.yields.high); past = λ e. absurd ((not_none _) e); brings = fueled-with (λ k. entries k c.loop-e.names c.args.strings c.loop-e.next) (omega (arith, c.in_err-e.ensures.yields.low, c.in_err-e.ensures.yields.high)) (λ j h. faulty (stops _ (c.in_err-e.ensures.yields.brings (suc j) (omega (arith, c.in_err-e.ensures.yields.low, c.in_err-e.ensures.yields.high))).tells (not_none _)) (not_none _)) })))

pub returns-then-w-eq-SEMICOLON : goal.returns-then-w-eq-SEMICOLON
unfolding entries
returns-then-w-eq-SEMICOLON c = c.loop-e.invariant.2 _ _ _ (record { low = omega (arith, c.in_ok-e.ensures.yields.low, c.in_ok-e.ensures.yields.high, c.in_ok-e.ensures.yields.past refl, c.in_ok-e.ensures.some refl, c.in_ok-e.ensures.small); high = omega (arith, c.in_ok-e.ensures.yields.low, c.in_ok-e.ensures.yields.high, c.in_ok-e.ensures.yields.past refl, c.in_ok-e.ensures.some refl, c.in_ok-e.ensures.small); past = λ e. omega (arith, c.in_ok-e.ensures.yields.low, c.in_ok-e.ensures.yields.high, c.in_ok-e.ensures.yields.past refl, c.in_ok-e.ensures.some refl, c.in_ok-e.ensures.small, c.in_ok-e.ensures.yields.past refl); brings = fueled-with (λ k. entries k c.loop-e.names c.args.strings c.loop-e.next) (omega (arith, c.in_ok-e.ensures.yields.low, c.in_ok-e.ensures.yields.high, c.in_ok-e.ensures.yields.past refl, c.in_ok-e.ensures.some refl, c.in_ok-e.ensures.small)) (λ j h. goes_with _ (c.in_ok-e.ensures.yields.brings (suc j) (omega (arith, c.in_ok-e.ensures.yields.low, c.in_ok-e.ensures.yields.high, c.in_ok-e.ensures.yields.past refl, c.in_ok-e.ensures.some refl, c.in_ok-e.ensures.small))) refl (λ a e. ends_with {P = λ es. es ≡ []} _ (yes-with _ _ _ c.look-w.ensures c.if-w-eq-SEMICOLON.true (passes-with _ c.look-w.ensures (omega (arith, c.in_ok-e.ensures.yields.low, c.in_ok-e.ensures.yields.high, c.in_ok-e.ensures.yields.past refl, c.in_ok-e.ensures.some refl, c.in_ok-e.ensures.small)) (gives-with refl refl))) (λ es z. entered-one c.loop-e.names c.loop-e.top c.in_ok-e.e.value _ a es e z (c.max-top.ensures ∙ max-is _ _)))) })

pub loop-e-smaller : goal.loop-e-smaller
loop-e-smaller c = omega (arith, c.in_ok-e.ensures.yields.low, c.in_ok-e.ensures.yields.high, c.in_ok-e.ensures.yields.past refl, c.in_ok-e.ensures.some refl, c.in_ok-e.ensures.small, c.in_ok-e.ensures.yields.past refl)

pub loop-e-preserved : goal.loop-e-preserved
unfolding entries
loop-e-preserved c = (omega (arith, c.in_ok-e.ensures.yields.low, c.in_ok-e.ensures.yields.high, c.in_ok-e.ensures.yields.past refl, c.in_ok-e.ensures.some refl, c.in_ok-e.ensures.small), omega (arith, c.in_ok-e.ensures.yields.low, c.in_ok-e.ensures.yields.high, c.in_ok-e.ensures.yields.past refl, c.in_ok-e.ensures.some refl, c.in_ok-e.ensures.small), λ o n t u. c.loop-e.invariant.2 o n t (record { low = omega (arith, c.in_ok-e.ensures.yields.low, c.in_ok-e.ensures.yields.high, c.in_ok-e.ensures.yields.past refl, c.in_ok-e.ensures.some refl, c.in_ok-e.ensures.small, u.low); high = u.high; past = λ e. omega (arith, c.in_ok-e.ensures.yields.low, c.in_ok-e.ensures.yields.high, c.in_ok-e.ensures.yields.past refl, c.in_ok-e.ensures.some refl, c.in_ok-e.ensures.small, u.low, c.in_ok-e.ensures.yields.past refl); brings = fueled-with (λ k. entries k c.loop-e.names c.args.strings c.loop-e.next) (omega (arith, c.in_ok-e.ensures.yields.low, c.in_ok-e.ensures.yields.high, c.in_ok-e.ensures.yields.past refl, c.in_ok-e.ensures.some refl, c.in_ok-e.ensures.small)) (λ j h. goes_with _ (c.in_ok-e.ensures.yields.brings (suc j) (omega (arith, c.in_ok-e.ensures.yields.low, c.in_ok-e.ensures.yields.high, c.in_ok-e.ensures.yields.past refl, c.in_ok-e.ensures.some refl, c.in_ok-e.ensures.small))) refl (λ a e. ends_with {P = Entered (c.loop-e.names - 1) c.max-top.result n t} _ (no-with _ _ _ c.look-w.ensures c.if-w-eq-SEMICOLON.false (rw e (u.brings j (omega (arith, c.in_ok-e.ensures.yields.low, c.in_ok-e.ensures.yields.high, c.in_ok-e.ensures.yields.past refl, c.in_ok-e.ensures.some refl, c.in_ok-e.ensures.small, c.in_ok-e.ensures.yields.past refl))))) (λ es z. entered-more c.loop-e.names c.loop-e.top c.in_ok-e.e.value c.max-top.result n t a es e (c.max-top.ensures ∙ max-is _ _) z))) }))
