-- `reader::read_action_read_actions_read_alternatives_read_choice_read_cycle_read_labelled_read_otherwise` meets its contract.
use Rattle.std.proofs.lemmas.Result.{err_from_is_err_and}
use Rattle.reader.proofs.Laws.{not_none}
use mathlib.Core.Path.{refl, sym, ◌∙◌}
use Prim.Native.Nat.{suc}
use native.Mathlib.Omega.{arith}
use Rattle.reader.proofs.Laws.{above, alternative-goes, alternative-stops, any_value, ends, ends_with, faulty, fueled, goes, goes_with, no, overs, passes, row_ends, row_goes, row-stops, stops, under, yes}
use Rattle.reader.specs.Parts.{a_labelled}
use Rattle.syntax.specs.Actions.{a_choice, a_cycle, actions, alternatives, an_action, an_otherwise}
use Rattle.reader.proofs.+read_action_read_actions_read_alternatives_read_choice_read_cycle_read_labelled_read_otherwise.Goals as goal

pub read_action-returns-then-left-eq0 : goal.read_action-returns-then-left-eq0
unfolding an_action
read_action-returns-then-left-eq0 t c = record { reads = record { low = omega arith; high = omega arith; tells = λ k h. yes _ _ _ c.requires c.if-w-eq-DO.true (above _ _ _ c.if-left-eq0.true (overs c.requires c.over.ensures)) }; past = λ e. absurd (omega arith) }

pub read_action-returns-then-w-eq-DO : goal.read_action-returns-then-w-eq-DO
unfolding an_action
read_action-returns-then-w-eq-DO t c = record { reads = record { low = omega arith; high = omega arith; tells = λ k h. yes _ _ _ c.requires c.if-w-eq-DO.true (under _ _ _ c.if-left-eq0.false (passes _ c.requires (omega arith) (c.read_cycle.ensures.tells k (omega (arith, c.requires.moves (omega arith)))))) }; past = λ e. omega (arith, c.requires.moves (omega arith)) }

pub read_action-returns-then-left-eq0-2 : goal.read_action-returns-then-left-eq0-2
unfolding an_action
read_action-returns-then-left-eq0-2 t c = record { reads = record { low = omega arith; high = omega arith; tells = λ k h. no _ _ _ c.requires c.if-w-eq-DO.false (yes _ _ _ c.requires c.if-w-eq-IF.true (above _ _ _ c.if-left-eq0-2.true (overs c.requires c.over-then-left-eq0-2.ensures))) }; past = λ e. absurd (omega arith) }

pub read_action-returns-then-w-eq-IF : goal.read_action-returns-then-w-eq-IF
unfolding an_action
read_action-returns-then-w-eq-IF t c = record { reads = record { low = omega arith; high = omega arith; tells = λ k h. no _ _ _ c.requires c.if-w-eq-DO.false (yes _ _ _ c.requires c.if-w-eq-IF.true (under _ _ _ c.if-left-eq0-2.false (passes _ c.requires (omega arith) (c.read_choice.ensures.tells k (omega (arith, c.requires.moves (omega arith))))))) }; past = λ e. omega (arith, c.requires.moves (omega arith)) }

pub read_action-returns : goal.read_action-returns
unfolding an_action
read_action-returns t c = record { reads = record { low = omega arith; high = omega arith; tells = λ k h. no _ _ _ c.requires c.if-w-eq-DO.false (no _ _ _ c.requires c.if-w-eq-IF.false (ends _ (c.read_plain.ensures.reads.tells (suc k) (omega arith)))) }; past = λ e. c.read_plain.ensures.past e }

pub read_actions-loop-w-init : goal.read_actions-loop-w-init
read_actions-loop-w-init t c = (omega arith, omega arith, λ r e. e)

pub read_actions-returns-then-is_closing : goal.read_actions-returns-then-is_closing
read_actions-returns-then-is_closing t c = c.loop-w.invariant.2 _ (record { low = omega arith; high = omega arith; tells = fueled (λ k. actions k c.args.left) (omega arith) (λ j h. row_ends j _ c.look-w.ensures (sym c.is_closing.ensures ∙ c.if-is_closing.true) refl refl) })

pub read_actions-returns-in_err-r : goal.read_actions-returns-in_err-r
read_actions-returns-in_err-r t c = let p = err_from_is_err_and c.from_residual.result c.from_residual.ensures.1 in rw (p.1, p.2) (c.loop-w.invariant.2 _ (record { low = omega (arith, c.in_err-r.ensures.reads.low, c.in_err-r.ensures.reads.high); high = omega (arith, c.in_err-r.ensures.reads.low, c.in_err-r.ensures.reads.high); tells = fueled (λ k. actions k c.args.left) (omega (arith, c.in_err-r.ensures.reads.low, c.in_err-r.ensures.reads.high)) (λ j h. row-stops j _ c.look-w.ensures (sym c.is_closing.ensures ∙ c.if-is_closing.false) (c.in_err-r.ensures.reads.tells j (omega (arith, c.in_err-r.ensures.reads.low, c.in_err-r.ensures.reads.high))) (not_none _)) }))

pub read_actions-loop-w-smaller : goal.read_actions-loop-w-smaller
read_actions-loop-w-smaller t c = omega (arith, c.in_ok-r.ensures.reads.low, c.in_ok-r.ensures.reads.high, c.in_ok-r.ensures.past refl, c.in_ok-r.ensures.past refl)

pub read_actions-loop-w-preserved : goal.read_actions-loop-w-preserved
read_actions-loop-w-preserved t c = (omega (arith, c.in_ok-r.ensures.reads.low, c.in_ok-r.ensures.reads.high, c.in_ok-r.ensures.past refl), omega (arith, c.in_ok-r.ensures.reads.low, c.in_ok-r.ensures.reads.high, c.in_ok-r.ensures.past refl), λ o u. c.loop-w.invariant.2 o (record { low = omega (arith, c.in_ok-r.ensures.reads.low, c.in_ok-r.ensures.reads.high, c.in_ok-r.ensures.past refl, u.low); high = u.high; tells = fueled (λ k. actions k c.args.left) (omega (arith, c.in_ok-r.ensures.reads.low, c.in_ok-r.ensures.reads.high, c.in_ok-r.ensures.past refl)) (λ j h. row_goes j _ c.look-w.ensures (sym c.is_closing.ensures ∙ c.if-is_closing.false) (c.in_ok-r.ensures.reads.tells j (omega (arith, c.in_ok-r.ensures.reads.low, c.in_ok-r.ensures.reads.high, c.in_ok-r.ensures.past refl))) refl (u.tells j (omega (arith, c.in_ok-r.ensures.reads.low, c.in_ok-r.ensures.reads.high, c.in_ok-r.ensures.past refl, c.in_ok-r.ensures.past refl)))) }))

pub read_alternatives-loop-w-init : goal.read_alternatives-loop-w-init
read_alternatives-loop-w-init t c = (omega arith, omega arith, λ r e. e)

pub read_alternatives-returns-then-w-eq-STAR : goal.read_alternatives-returns-then-w-eq-STAR
unfolding alternatives
read_alternatives-returns-then-w-eq-STAR t c = c.loop-w.invariant.2 _ (record { low = omega arith; high = omega arith; tells = fueled (λ k. alternatives k c.args.left c.loop-w.free) (omega arith) (λ j h. yes _ _ _ c.look-w.ensures c.if-w-eq-STAR.true (passes _ c.look-w.ensures (omega arith) (c.read_otherwise.ensures.tells j (omega (arith, c.look-w.ensures.moves (omega arith)))))) })

pub read_alternatives-returns-in_err-l : goal.read_alternatives-returns-in_err-l
unfolding alternatives
read_alternatives-returns-in_err-l t c = let p = err_from_is_err_and c.from_residual.result c.from_residual.ensures.1 in rw (p.1, p.2) (c.loop-w.invariant.2 _ (record { low = omega (arith, c.in_err-l.ensures.low, c.in_err-l.ensures.high); high = omega (arith, c.in_err-l.ensures.low, c.in_err-l.ensures.high); tells = fueled (λ k. alternatives k c.args.left c.loop-w.free) (omega (arith, c.in_err-l.ensures.low, c.in_err-l.ensures.high)) (λ j h. no _ _ _ c.look-w.ensures c.if-w-eq-STAR.false (alternative-stops _ _ _ _ _ (c.in_err-l.ensures.brings j (omega (arith, c.in_err-l.ensures.low, c.in_err-l.ensures.high))).tells (not_none _))) }))

pub read_alternatives-returns-then-s-ne-BAR : goal.read_alternatives-returns-then-s-ne-BAR
unfolding alternatives
read_alternatives-returns-then-s-ne-BAR t c = c.loop-w.invariant.2 _ (record { low = omega (arith, c.in_ok-l.ensures.low, c.in_ok-l.ensures.high, c.in_ok-l.ensures.past refl); high = omega (arith, c.in_ok-l.ensures.low, c.in_ok-l.ensures.high, c.in_ok-l.ensures.past refl); tells = fueled (λ k. alternatives k c.args.left c.loop-w.free) (omega (arith, c.in_ok-l.ensures.low, c.in_ok-l.ensures.high, c.in_ok-l.ensures.past refl)) (λ j h. no _ _ _ c.look-w.ensures c.if-w-eq-STAR.false (alternative-goes _ _ _ _ _ _ (c.in_ok-l.ensures.brings j (omega (arith, c.in_ok-l.ensures.low, c.in_ok-l.ensures.high, c.in_ok-l.ensures.past refl))) refl (no _ _ _ c.look-s.ensures c.if-s-ne-BAR.true (ends _ (c.expect_word.ensures.tells (suc j) (omega (arith, c.in_ok-l.ensures.low, c.in_ok-l.ensures.high, c.in_ok-l.ensures.past refl))))))) })

pub read_alternatives-loop-w-smaller : goal.read_alternatives-loop-w-smaller
read_alternatives-loop-w-smaller t c = omega (arith, c.in_ok-l.ensures.low, c.in_ok-l.ensures.high, c.in_ok-l.ensures.past refl, c.look-s.ensures.moves (omega (arith, c.in_ok-l.ensures.low, c.in_ok-l.ensures.high, c.in_ok-l.ensures.past refl)))

pub read_alternatives-loop-w-preserved : goal.read_alternatives-loop-w-preserved
unfolding alternatives
read_alternatives-loop-w-preserved t c = (omega (arith, c.in_ok-l.ensures.low, c.in_ok-l.ensures.high, c.in_ok-l.ensures.past refl), omega (arith, c.in_ok-l.ensures.low, c.in_ok-l.ensures.high, c.in_ok-l.ensures.past refl), λ o u. c.loop-w.invariant.2 o (record { low = omega (arith, c.in_ok-l.ensures.low, c.in_ok-l.ensures.high, c.in_ok-l.ensures.past refl, u.low); high = u.high; tells = fueled (λ k. alternatives k c.args.left c.loop-w.free) (omega (arith, c.in_ok-l.ensures.low, c.in_ok-l.ensures.high, c.in_ok-l.ensures.past refl)) (λ j h. no _ _ _ c.look-w.ensures c.if-w-eq-STAR.false (alternative-goes _ _ _ _ _ _ (c.in_ok-l.ensures.brings j (omega (arith, c.in_ok-l.ensures.low, c.in_ok-l.ensures.high, c.in_ok-l.ensures.past refl))) refl (yes _ _ _ c.look-s.ensures c.if-s-ne-BAR.false (passes _ c.look-s.ensures (omega (arith, c.in_ok-l.ensures.low, c.in_ok-l.ensures.high, c.in_ok-l.ensures.past refl)) (u.tells j (omega (arith, c.in_ok-l.ensures.low, c.in_ok-l.ensures.high, c.in_ok-l.ensures.past refl, c.look-s.ensures.moves (omega (arith, c.in_ok-l.ensures.low, c.in_ok-l.ensures.high, c.in_ok-l.ensures.past refl))))))))) }))

pub read_choice-returns-in_err-h : goal.read_choice-returns-in_err-h
unfolding a_choice
read_choice-returns-in_err-h t c = let p = err_from_is_err_and c.from_residual.result c.from_residual.ensures.1 in rw (p.1, p.2) (record { low = omega (arith, c.in_err-h.ensures.low, c.in_err-h.ensures.high); high = omega (arith, c.in_err-h.ensures.low, c.in_err-h.ensures.high); tells = λ k h. stops _ (c.in_err-h.ensures.tells k h) (not_none _) })

pub read_choice-returns-in_err-b : goal.read_choice-returns-in_err-b
unfolding a_choice
read_choice-returns-in_err-b t c = let p = err_from_is_err_and c.from_residual-in_err-b.result c.from_residual-in_err-b.ensures.1 in rw (p.1, p.2) (record { low = omega (arith, c.in_ok-h.ensures.low, c.in_ok-h.ensures.high, c.in_err-b.ensures.low, c.in_err-b.ensures.high); high = omega (arith, c.in_ok-h.ensures.low, c.in_ok-h.ensures.high, c.in_err-b.ensures.low, c.in_err-b.ensures.high); tells = λ k h. goes _ (c.in_ok-h.ensures.tells k h) refl (λ a. stops _ (c.in_err-b.ensures.tells k (omega (arith, c.in_ok-h.ensures.low, c.in_ok-h.ensures.high, c.in_err-b.ensures.low, c.in_err-b.ensures.high))) (not_none _)) })

pub read_choice-returns : goal.read_choice-returns
unfolding a_choice
read_choice-returns t c = record { low = omega (arith, c.in_ok-h.ensures.low, c.in_ok-h.ensures.high, c.in_ok-b.ensures.low, c.in_ok-b.ensures.high); high = omega (arith, c.in_ok-h.ensures.low, c.in_ok-h.ensures.high, c.in_ok-b.ensures.low, c.in_ok-b.ensures.high); tells = λ k h. goes _ (c.in_ok-h.ensures.tells k h) refl (λ a. goes _ (c.in_ok-b.ensures.tells k (omega (arith, c.in_ok-h.ensures.low, c.in_ok-h.ensures.high, c.in_ok-b.ensures.low, c.in_ok-b.ensures.high))) refl (λ b. ends _ (c.read_alternatives.ensures.tells k (omega (arith, c.in_ok-h.ensures.low, c.in_ok-h.ensures.high, c.in_ok-b.ensures.low, c.in_ok-b.ensures.high))))) }

pub read_cycle-returns-in_err-r : goal.read_cycle-returns-in_err-r
unfolding a_cycle
read_cycle-returns-in_err-r t c = let p = err_from_is_err_and c.from_residual.result c.from_residual.ensures.1 in rw (p.1, p.2) (record { low = omega (arith, c.in_err-r.ensures.low, c.in_err-r.ensures.high); high = omega (arith, c.in_err-r.ensures.low, c.in_err-r.ensures.high); tells = λ k h. stops _ (c.in_err-r.ensures.tells k h) (not_none _) })

pub read_cycle-returns : goal.read_cycle-returns
unfolding a_cycle
read_cycle-returns t c = record { low = omega (arith, c.in_ok-r.ensures.low, c.in_ok-r.ensures.high); high = omega (arith, c.in_ok-r.ensures.low, c.in_ok-r.ensures.high); tells = λ k h. goes _ (c.in_ok-r.ensures.tells k h) refl (λ a. ends _ (c.expect_word.ensures.tells k (omega (arith, c.in_ok-r.ensures.low, c.in_ok-r.ensures.high)))) }

pub read_labelled-returns-in_err-l : goal.read_labelled-returns-in_err-l
unfolding a_labelled
read_labelled-returns-in_err-l t c = let p = err_from_is_err_and c.from_residual.result c.from_residual.ensures.1 in rw (p.1, p.2) (record { low = omega (arith, c.in_err-l.ensures.low, c.in_err-l.ensures.high); high = omega (arith, c.in_err-l.ensures.low, c.in_err-l.ensures.high); past = λ e. absurd ((not_none _) e); brings = λ k h. faulty (stops _ (c.in_err-l.ensures.brings k h).tells (not_none _)) (not_none _) })

pub read_labelled-returns-in_err-c : goal.read_labelled-returns-in_err-c
unfolding a_labelled
read_labelled-returns-in_err-c t c = let p = err_from_is_err_and c.from_residual-in_err-c.result c.from_residual-in_err-c.ensures.1 in rw (p.1, p.2) (record { low = omega (arith, c.in_ok-l.ensures.low, c.in_ok-l.ensures.high, c.in_ok-l.ensures.past refl, c.in_err-c.ensures.low, c.in_err-c.ensures.high); high = omega (arith, c.in_ok-l.ensures.low, c.in_ok-l.ensures.high, c.in_ok-l.ensures.past refl, c.in_err-c.ensures.low, c.in_err-c.ensures.high); past = λ e. absurd ((not_none _) e); brings = λ k h. faulty (goes _ (c.in_ok-l.ensures.brings k h).tells refl (λ a. stops _ (c.in_err-c.ensures.tells (suc k) (omega (arith, c.in_ok-l.ensures.low, c.in_ok-l.ensures.high, c.in_ok-l.ensures.past refl, c.in_err-c.ensures.low, c.in_err-c.ensures.high))) (not_none _))) (not_none _) })

pub read_labelled-returns : goal.read_labelled-returns
unfolding a_labelled
read_labelled-returns t c = record { low = omega (arith, c.in_ok-l.ensures.low, c.in_ok-l.ensures.high, c.in_ok-l.ensures.past refl, c.in_ok-c.ensures.low, c.in_ok-c.ensures.high, c.in_ok-r.ensures.low, c.in_ok-r.ensures.high); high = omega (arith, c.in_ok-l.ensures.low, c.in_ok-l.ensures.high, c.in_ok-l.ensures.past refl, c.in_ok-c.ensures.low, c.in_ok-c.ensures.high, c.in_ok-r.ensures.low, c.in_ok-r.ensures.high); past = λ e. omega (arith, c.in_ok-l.ensures.low, c.in_ok-l.ensures.high, c.in_ok-l.ensures.past refl, c.in_ok-c.ensures.low, c.in_ok-c.ensures.high, c.in_ok-r.ensures.low, c.in_ok-r.ensures.high, c.in_ok-l.ensures.past refl); brings = λ k h. goes_with _ (c.in_ok-l.ensures.brings k h) refl (λ a e. goes_with _ (any_value (c.in_ok-c.ensures.tells (suc k) (omega (arith, c.in_ok-l.ensures.low, c.in_ok-l.ensures.high, c.in_ok-l.ensures.past refl, c.in_ok-c.ensures.low, c.in_ok-c.ensures.high, c.in_ok-r.ensures.low, c.in_ok-r.ensures.high)))) refl (λ b _. ends_with _ (any_value (c.in_ok-r.ensures.tells k (omega (arith, c.in_ok-l.ensures.low, c.in_ok-l.ensures.high, c.in_ok-l.ensures.past refl, c.in_ok-c.ensures.low, c.in_ok-c.ensures.high, c.in_ok-r.ensures.low, c.in_ok-r.ensures.high, c.in_ok-l.ensures.past refl)))) (λ d _. e))) }

pub read_otherwise-returns-in_err-c : goal.read_otherwise-returns-in_err-c
unfolding an_otherwise
read_otherwise-returns-in_err-c t c = let p = err_from_is_err_and c.from_residual.result c.from_residual.ensures.1 in rw (p.1, p.2) (record { low = omega (arith, c.in_err-c.ensures.low, c.in_err-c.ensures.high); high = omega (arith, c.in_err-c.ensures.low, c.in_err-c.ensures.high); tells = λ k h. stops _ (c.in_err-c.ensures.tells k h) (not_none _) })

pub read_otherwise-returns-in_err-r : goal.read_otherwise-returns-in_err-r
unfolding an_otherwise
read_otherwise-returns-in_err-r t c = let p = err_from_is_err_and c.from_residual-in_err-r.result c.from_residual-in_err-r.ensures.1 in rw (p.1, p.2) (record { low = omega (arith, c.in_ok-c.ensures.low, c.in_ok-c.ensures.high, c.in_err-r.ensures.low, c.in_err-r.ensures.high); high = omega (arith, c.in_ok-c.ensures.low, c.in_ok-c.ensures.high, c.in_err-r.ensures.low, c.in_err-r.ensures.high); tells = λ k h. goes _ (c.in_ok-c.ensures.tells k h) refl (λ a. stops _ (c.in_err-r.ensures.tells k (omega (arith, c.in_ok-c.ensures.low, c.in_ok-c.ensures.high, c.in_err-r.ensures.low, c.in_err-r.ensures.high))) (not_none _)) })

pub read_otherwise-returns : goal.read_otherwise-returns
unfolding an_otherwise
read_otherwise-returns t c = record { low = omega (arith, c.in_ok-c.ensures.low, c.in_ok-c.ensures.high, c.in_ok-r.ensures.low, c.in_ok-r.ensures.high); high = omega (arith, c.in_ok-c.ensures.low, c.in_ok-c.ensures.high, c.in_ok-r.ensures.low, c.in_ok-r.ensures.high); tells = λ k h. goes _ (c.in_ok-c.ensures.tells k h) refl (λ a. goes _ (c.in_ok-r.ensures.tells k (omega (arith, c.in_ok-c.ensures.low, c.in_ok-c.ensures.high, c.in_ok-r.ensures.low, c.in_ok-r.ensures.high))) refl (λ b. ends _ (c.expect_word-2.ensures.tells k (omega (arith, c.in_ok-c.ensures.low, c.in_ok-c.ensures.high, c.in_ok-r.ensures.low, c.in_ok-r.ensures.high))))) }

pub read_labelled-returns-in_err-r : goal.read_labelled-returns-in_err-r
unfolding a_labelled
read_labelled-returns-in_err-r t c = let p = err_from_is_err_and c.from_residual-in_err-r.result c.from_residual-in_err-r.ensures.1 in rw (p.1, p.2) (record { low = omega (arith, c.in_ok-l.ensures.low, c.in_ok-l.ensures.high, c.in_ok-l.ensures.past refl, c.in_ok-c.ensures.low, c.in_ok-c.ensures.high, c.in_err-r.ensures.low, c.in_err-r.ensures.high); high = omega (arith, c.in_ok-l.ensures.low, c.in_ok-l.ensures.high, c.in_ok-l.ensures.past refl, c.in_ok-c.ensures.low, c.in_ok-c.ensures.high, c.in_err-r.ensures.low, c.in_err-r.ensures.high); past = λ e. absurd (not_none _ e); brings = λ k h. goes_with _ (c.in_ok-l.ensures.brings k h) refl (λ a e. goes_with _ (any_value (c.in_ok-c.ensures.tells (suc k) (omega (arith, c.in_ok-l.ensures.low, c.in_ok-l.ensures.high, c.in_ok-l.ensures.past refl, c.in_ok-c.ensures.low, c.in_ok-c.ensures.high, c.in_err-r.ensures.low, c.in_err-r.ensures.high)))) refl (λ b _. ends_with _ (any_value (c.in_err-r.ensures.tells k (omega (arith, c.in_ok-l.ensures.low, c.in_ok-l.ensures.high, c.in_ok-l.ensures.past refl, c.in_ok-c.ensures.low, c.in_ok-c.ensures.high, c.in_err-r.ensures.low, c.in_err-r.ensures.high, c.in_ok-l.ensures.past refl)))) (λ d _. tt))) })
