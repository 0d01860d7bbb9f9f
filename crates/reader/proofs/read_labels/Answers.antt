-- `reader::read_labels` meets its contract.
use Rattle.std.proofs.lemmas.Result.{err_from_is_err_and}
use Rattle.reader.proofs.Laws.{yields-none}
use Rattle.reader.proofs.Laws.{not_none}
use mathlib.Core.Path.{◌≡◌, refl}
use Prim.Native.Nat.{suc, ◌-◌}
use native.Mathlib.Omega.{arith}
use lib.ListN.{length}
use Rattle.reader.proofs.Laws.{any_value, ends_with, faulty, fueled-late, gives-with, goes_with, no-with, passes-with, stops, yes-with}
use Rattle.reader.specs.Parts.{Leaves}
use Rattle.syntax.specs.Actions.{some_labels}
use Rattle.reader.proofs.read_labels.Goals as goal

pub loop-r-init : goal.loop-r-init
loop-r-init c = (omega arith, omega arith, λ o n e. e)

pub returns-in_err-r : goal.returns-in_err-r
unfolding some_labels
returns-in_err-r c = let p = err_from_is_err_and c.from_residual.result c.from_residual.ensures.1 in rw (p.1, p.2) (yields-none _ (c.loop-r.invariant.2 _ 0 (record { low = omega (arith, c.in_err-r.ensures.reads.low, c.in_err-r.ensures.reads.high); high = omega (arith, c.in_err-r.ensures.reads.low, c.in_err-r.ensures.reads.high); past = λ e. absurd ((not_none _) e); brings = fueled-late (λ k. some_labels k c.loop-r.left) (omega (arith, c.in_err-r.ensures.reads.low, c.in_err-r.ensures.reads.high)) (λ e. faulty (c.in_err-r.ensures.dry e) (not_none _)) (λ j h. faulty (stops _ (c.in_err-r.ensures.reads.tells (suc (suc j)) (omega (arith, c.in_err-r.ensures.reads.low, c.in_err-r.ensures.reads.high))) (not_none _)) (not_none _)) })))

pub returns-then-w-ne-COMMA : goal.returns-then-w-ne-COMMA
unfolding some_labels
returns-then-w-ne-COMMA c = c.loop-r.invariant.2 _ _ (record { low = omega (arith, c.in_ok-r.ensures.reads.low, c.in_ok-r.ensures.reads.high, c.in_ok-r.ensures.past refl, c.in_ok-r.ensures.some refl); high = omega (arith, c.in_ok-r.ensures.reads.low, c.in_ok-r.ensures.reads.high, c.in_ok-r.ensures.past refl, c.in_ok-r.ensures.some refl); past = λ e. c.in_ok-r.ensures.past e; brings = fueled-late (λ k. some_labels k c.loop-r.left) (omega (arith, c.in_ok-r.ensures.reads.low, c.in_ok-r.ensures.reads.high, c.in_ok-r.ensures.past refl, c.in_ok-r.ensures.some refl)) (λ e. absurd (omega (arith, c.in_ok-r.ensures.reads.low, c.in_ok-r.ensures.reads.high, c.in_ok-r.ensures.past refl, c.in_ok-r.ensures.some refl, c.in_ok-r.ensures.past refl))) (λ j h. goes_with _ (any_value (c.in_ok-r.ensures.reads.tells (suc (suc j)) (omega (arith, c.in_ok-r.ensures.reads.low, c.in_ok-r.ensures.reads.high, c.in_ok-r.ensures.past refl, c.in_ok-r.ensures.some refl)))) refl (λ a _. ends_with {P = λ ls. length ls ≡ 0} _ (no-with _ _ _ c.look-w.ensures c.if-w-ne-COMMA.true (gives-with refl refl)) (λ ls e. omega (arith, c.in_ok-r.ensures.reads.low, c.in_ok-r.ensures.reads.high, c.in_ok-r.ensures.past refl, c.in_ok-r.ensures.some refl)))) })

pub loop-r-smaller : goal.loop-r-smaller
loop-r-smaller c = omega (arith, c.in_ok-r.ensures.reads.low, c.in_ok-r.ensures.reads.high, c.in_ok-r.ensures.past refl, c.in_ok-r.ensures.some refl, c.in_ok-r.ensures.past refl)

pub loop-r-preserved : goal.loop-r-preserved
unfolding some_labels
loop-r-preserved c = (omega (arith, c.in_ok-r.ensures.reads.low, c.in_ok-r.ensures.reads.high, c.in_ok-r.ensures.past refl, c.in_ok-r.ensures.some refl), omega (arith, c.in_ok-r.ensures.reads.low, c.in_ok-r.ensures.reads.high, c.in_ok-r.ensures.past refl, c.in_ok-r.ensures.some refl), λ o n u. c.loop-r.invariant.2 o n (record { low = omega (arith, c.in_ok-r.ensures.reads.low, c.in_ok-r.ensures.reads.high, c.in_ok-r.ensures.past refl, c.in_ok-r.ensures.some refl, u.low); high = u.high; past = λ e. omega (arith, c.in_ok-r.ensures.reads.low, c.in_ok-r.ensures.reads.high, c.in_ok-r.ensures.past refl, c.in_ok-r.ensures.some refl, u.low, c.in_ok-r.ensures.past refl); brings = fueled-late (λ k. some_labels k c.loop-r.left) (omega (arith, c.in_ok-r.ensures.reads.low, c.in_ok-r.ensures.reads.high, c.in_ok-r.ensures.past refl, c.in_ok-r.ensures.some refl)) (λ e. absurd (omega (arith, c.in_ok-r.ensures.reads.low, c.in_ok-r.ensures.reads.high, c.in_ok-r.ensures.past refl, c.in_ok-r.ensures.some refl, c.in_ok-r.ensures.past refl))) (λ j h. goes_with _ (any_value (c.in_ok-r.ensures.reads.tells (suc (suc j)) (omega (arith, c.in_ok-r.ensures.reads.low, c.in_ok-r.ensures.reads.high, c.in_ok-r.ensures.past refl, c.in_ok-r.ensures.some refl)))) refl (λ a _. ends_with {P = Leaves (c.loop-r.left - 1) n} _ (yes-with _ _ _ c.look-w.ensures c.if-w-ne-COMMA.false (passes-with _ c.look-w.ensures (omega (arith, c.in_ok-r.ensures.reads.low, c.in_ok-r.ensures.reads.high, c.in_ok-r.ensures.past refl, c.in_ok-r.ensures.some refl)) (u.brings j (omega (arith, c.in_ok-r.ensures.reads.low, c.in_ok-r.ensures.reads.high, c.in_ok-r.ensures.past refl, c.in_ok-r.ensures.some refl, c.look-w.ensures.moves (omega (arith, c.in_ok-r.ensures.reads.low, c.in_ok-r.ensures.reads.high, c.in_ok-r.ensures.past refl, c.in_ok-r.ensures.some refl)), c.in_ok-r.ensures.past refl))))) (λ ls e. omega (arith, c.in_ok-r.ensures.reads.low, c.in_ok-r.ensures.reads.high, c.in_ok-r.ensures.past refl, c.in_ok-r.ensures.some refl)))) }))
