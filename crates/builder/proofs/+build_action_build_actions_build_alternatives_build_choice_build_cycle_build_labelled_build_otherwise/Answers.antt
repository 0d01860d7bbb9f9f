-- The functions that build actions, cycles, choices and alternatives meet their contracts. Measure: five times the bytes left, and a rank.
use Rattle.std.proofs.lemmas.Result.{err_from_is_err_and}
use Rattle.symbols.proofs.Numbered.{fault-some}
use mathlib.Core.Path.{refl, sym, ◌∙◌}
use native.Mathlib.Omega.{arith}
use Rattle.resolver.proofs.Appending.{appends-length}
use Rattle.builder.proofs.Building.{acts-stop, acts-fail, acts-more, act-cycle, act-choice, act-plain, cycle-fail, cycle-end, other-fail, other-end}
use Rattle.builder.proofs.Choosing.{choice-fail, choice-more, alts-other, alts-off, alts-fail, alts-last, alts-next}
use Rattle.builder.proofs.Labelling.{labelled-fail, labelled-more, labelled-off}
use Rattle.builder.proofs.+build_action_build_actions_build_alternatives_build_choice_build_cycle_build_labelled_build_otherwise.Goals as goal

pub build_action-build_cycle-requires : goal.build_action-build_cycle-requires
build_action-build_cycle-requires t c = (omega (arith, c.requires.1.moves (omega (arith, c.if-w-eq-DO.true)), c.requires.1.high c.requires.0), (omega (arith, c.requires.1.moves (omega (arith, c.if-w-eq-DO.true)), c.requires.1.high c.requires.0), c.requires.2))

pub build_action-shape_of-cells-then-w-eq-DO : goal.build_action-shape_of-cells-then-w-eq-DO
build_action-shape_of-cells-then-w-eq-DO t c = c.build_cycle.ensures.kept.same

pub build_action-returns-then-w-eq-DO : goal.build_action-returns-then-w-eq-DO
build_action-returns-then-w-eq-DO t c = act-cycle c.requires.1 c.if-w-eq-DO.true c.build_cycle.ensures

pub build_action-build_choice-requires : goal.build_action-build_choice-requires
build_action-build_choice-requires t c = (omega (arith, c.requires.1.moves (omega (arith, c.if-w-eq-IF.true)), c.requires.1.high c.requires.0), (omega (arith, c.requires.1.moves (omega (arith, c.if-w-eq-IF.true)), c.requires.1.high c.requires.0), c.requires.2))

pub build_action-shape_of-cells-then-w-eq-IF : goal.build_action-shape_of-cells-then-w-eq-IF
build_action-shape_of-cells-then-w-eq-IF t c = c.build_choice.ensures.kept.same

pub build_action-returns-then-w-eq-IF : goal.build_action-returns-then-w-eq-IF
build_action-returns-then-w-eq-IF t c = act-choice c.requires.1 c.if-w-eq-IF.true c.build_choice.ensures

pub build_action-resolve_plain-requires : goal.build_action-resolve_plain-requires
build_action-resolve_plain-requires t c = (c.requires.0, c.requires.1, c.requires.2)

pub build_action-shape_of-cells : goal.build_action-shape_of-cells
build_action-shape_of-cells t c = c.resolve_plain.ensures.same

pub build_action-returns : goal.build_action-returns
build_action-returns t c = act-plain c.requires.1 c.if-w-eq-DO.false c.if-w-eq-IF.false c.resolve_plain.ensures

pub build_actions-loop-scope-init : goal.build_actions-loop-scope-init
build_actions-loop-scope-init t c = (omega arith, omega arith, refl, λ cs r e. e)

pub build_actions-shape_of-cells-then-is_closing : goal.build_actions-shape_of-cells-then-is_closing
build_actions-shape_of-cells-then-is_closing t c = appends-length c.put-count.ensures ∙ c.loop-scope.invariant.2

pub build_actions-returns-then-is_closing : goal.build_actions-returns-then-is_closing
build_actions-returns-then-is_closing t c = c.loop-scope.invariant.3 _ _ (acts-stop c.loop-scope.invariant.1 c.look-w.ensures (sym c.is_closing.ensures ∙ c.if-is_closing.true) c.put-count.ensures refl refl refl refl)

pub build_actions-build_action-requires : goal.build_actions-build_action-requires
build_actions-build_action-requires t c = (omega (arith, c.loop-scope.invariant.2), (omega (arith, c.loop-scope.invariant.2), c.look-w.ensures, c.requires.1))

pub build_actions-shape_of-cells-in_err-a : goal.build_actions-shape_of-cells-in_err-a
build_actions-shape_of-cells-in_err-a t c = c.in_err-a.ensures.kept.same ∙ c.loop-scope.invariant.2

pub build_actions-returns-in_err-a : goal.build_actions-returns-in_err-a
build_actions-returns-in_err-a t c = let p = err_from_is_err_and c.from_residual.result c.from_residual.ensures.1 in rw (p.1, p.2) (c.loop-scope.invariant.3 _ _ (acts-fail c.look-w.ensures (sym c.is_closing.ensures ∙ c.if-is_closing.false) c.in_err-a.ensures (fault-some _)))

pub build_actions-loop-scope-smaller : goal.build_actions-loop-scope-smaller
build_actions-loop-scope-smaller t c = omega (arith, c.in_ok-a.ensures.kept.low refl, c.in_ok-a.ensures.kept.high refl)

pub build_actions-loop-scope-preserved : goal.build_actions-loop-scope-preserved
build_actions-loop-scope-preserved t c = (omega (arith, c.in_ok-a.ensures.kept.low refl), c.in_ok-a.ensures.kept.high refl, c.in_ok-a.ensures.kept.same ∙ c.loop-scope.invariant.2, λ cs r e. c.loop-scope.invariant.3 cs r (acts-more c.look-w.ensures (sym c.is_closing.ensures ∙ c.if-is_closing.false) c.in_ok-a.ensures refl refl refl e))

pub build_alternatives-loop-choice-init : goal.build_alternatives-loop-choice-init
build_alternatives-loop-choice-init t c = (omega arith, omega arith, refl, omega arith, omega arith, λ cs r e. e)

pub build_alternatives-build_otherwise-requires : goal.build_alternatives-build_otherwise-requires
build_alternatives-build_otherwise-requires t c = (omega (arith, c.loop-choice.invariant.2, c.look-w.ensures.moves (omega (arith, c.if-w-eq-STAR.true)), c.look-w.ensures.high c.loop-choice.invariant.1), (omega (arith, c.loop-choice.invariant.2, c.look-w.ensures.moves (omega (arith, c.if-w-eq-STAR.true)), c.look-w.ensures.high c.loop-choice.invariant.1), c.requires.1))

pub build_alternatives-shape_of-seen-in_err-o : goal.build_alternatives-shape_of-seen-in_err-o
build_alternatives-shape_of-seen-in_err-o t c = omega (arith, c.requires.2, c.loop-choice.invariant.2, c.loop-choice.invariant.3, c.in_err-o.ensures.kept.same)

pub build_alternatives-shape_of-seen-then-w-eq-STAR : goal.build_alternatives-shape_of-seen-then-w-eq-STAR
build_alternatives-shape_of-seen-then-w-eq-STAR t c = omega (arith, c.requires.2, c.loop-choice.invariant.2, c.loop-choice.invariant.3, c.in_ok-o.ensures.kept.same)

pub build_alternatives-shape_of-cells-in_err-o : goal.build_alternatives-shape_of-cells-in_err-o
build_alternatives-shape_of-cells-in_err-o t c = omega (arith, c.requires.2, c.loop-choice.invariant.2, c.loop-choice.invariant.3, c.in_err-o.ensures.kept.same)

pub build_alternatives-shape_of-cells-then-w-eq-STAR : goal.build_alternatives-shape_of-cells-then-w-eq-STAR
build_alternatives-shape_of-cells-then-w-eq-STAR t c = omega (arith, c.requires.2, c.loop-choice.invariant.2, c.loop-choice.invariant.3, c.in_ok-o.ensures.kept.same)

pub build_alternatives-returns-in_err-o : goal.build_alternatives-returns-in_err-o
build_alternatives-returns-in_err-o t c = let p = err_from_is_err_and c.from_residual.result c.from_residual.ensures.1 in rw (p.1, p.2) (c.loop-choice.invariant.5 _ _ (alts-off c.look-w.ensures c.if-w-eq-STAR.true c.in_err-o.ensures (fault-some _)))

pub build_alternatives-returns-then-w-eq-STAR : goal.build_alternatives-returns-then-w-eq-STAR
build_alternatives-returns-then-w-eq-STAR t c = c.loop-choice.invariant.5 _ _ (alts-other c.look-w.ensures c.if-w-eq-STAR.true c.in_ok-o.ensures refl refl refl)

pub build_alternatives-build_labelled-requires : goal.build_alternatives-build_labelled-requires
build_alternatives-build_labelled-requires t c = (omega (arith, c.loop-choice.invariant.2), (omega (arith, c.loop-choice.invariant.2), c.requires.1, omega (arith, c.loop-choice.invariant.2), omega (arith, c.loop-choice.invariant.2)))

pub build_alternatives-shape_of-seen-in_err-l : goal.build_alternatives-shape_of-seen-in_err-l
build_alternatives-shape_of-seen-in_err-l t c = omega (arith, c.requires.2, c.loop-choice.invariant.2, c.loop-choice.invariant.3, c.in_err-l.ensures.same, c.in_err-l.ensures.kept.same)

pub build_alternatives-shape_of-cells-in_err-l : goal.build_alternatives-shape_of-cells-in_err-l
build_alternatives-shape_of-cells-in_err-l t c = omega (arith, c.requires.2, c.loop-choice.invariant.2, c.loop-choice.invariant.3, c.in_err-l.ensures.same, c.in_err-l.ensures.kept.same)

pub build_alternatives-returns-in_err-l : goal.build_alternatives-returns-in_err-l
build_alternatives-returns-in_err-l t c = let p = err_from_is_err_and c.from_residual-in_err-l.result c.from_residual-in_err-l.ensures.1 in rw (p.1, p.2) (c.loop-choice.invariant.5 _ _ (alts-fail c.look-w.ensures c.if-w-eq-STAR.false c.in_err-l.ensures (fault-some _)))

pub build_alternatives-shape_of-seen-then-s-ne-BAR : goal.build_alternatives-shape_of-seen-then-s-ne-BAR
build_alternatives-shape_of-seen-then-s-ne-BAR t c = omega (arith, c.requires.2, c.loop-choice.invariant.2, c.loop-choice.invariant.3, c.in_ok-l.ensures.same, c.in_ok-l.ensures.kept.same, appends-length c.put-count.ensures)

pub build_alternatives-shape_of-cells-then-s-ne-BAR : goal.build_alternatives-shape_of-cells-then-s-ne-BAR
build_alternatives-shape_of-cells-then-s-ne-BAR t c = omega (arith, c.requires.2, c.loop-choice.invariant.2, c.loop-choice.invariant.3, c.in_ok-l.ensures.same, c.in_ok-l.ensures.kept.same, appends-length c.put-count.ensures)

pub build_alternatives-returns-then-s-ne-BAR : goal.build_alternatives-returns-then-s-ne-BAR
build_alternatives-returns-then-s-ne-BAR t c = c.loop-choice.invariant.5 _ _ (alts-last c.look-w.ensures c.if-w-eq-STAR.false c.in_ok-l.ensures refl c.look-s.ensures c.if-s-ne-BAR.true c.put-count.ensures refl refl refl refl)

pub build_alternatives-loop-choice-smaller : goal.build_alternatives-loop-choice-smaller
build_alternatives-loop-choice-smaller t c = omega (arith, c.in_ok-l.ensures.kept.low refl, c.look-s.ensures.onto, c.look-s.ensures.high (c.in_ok-l.ensures.kept.high refl))

pub build_alternatives-loop-choice-preserved : goal.build_alternatives-loop-choice-preserved
build_alternatives-loop-choice-preserved t c = (omega (arith, c.loop-choice.invariant.0, c.in_ok-l.ensures.kept.low refl, c.look-s.ensures.onto), c.look-s.ensures.high (c.in_ok-l.ensures.kept.high refl), c.in_ok-l.ensures.kept.same ∙ c.loop-choice.invariant.2, c.in_ok-l.ensures.same ∙ c.loop-choice.invariant.3, omega (arith, c.in_ok-l.ensures.room refl, c.loop-choice.invariant.3), λ cs r e. c.loop-choice.invariant.5 cs r (alts-next c.look-w.ensures c.if-w-eq-STAR.false c.in_ok-l.ensures refl c.look-s.ensures c.if-s-ne-BAR.false refl refl e))

pub build_choice-resolve_selector-requires : goal.build_choice-resolve_selector-requires
build_choice-resolve_selector-requires t c = (omega arith, c.requires.1)

pub build_choice-shape_of-cells-in_err-s : goal.build_choice-shape_of-cells-in_err-s
build_choice-shape_of-cells-in_err-s t c = c.in_err-s.ensures.same

pub build_choice-returns-in_err-s : goal.build_choice-returns-in_err-s
build_choice-returns-in_err-s t c = let p = err_from_is_err_and c.from_residual.result c.from_residual.ensures.1 in rw (p.1, p.2) (choice-fail c.in_err-s.ensures (fault-some _) refl)

pub build_choice-build_alternatives-requires : goal.build_choice-build_alternatives-requires
build_choice-build_alternatives-requires t c = (omega (arith, c.in_ok-s.ensures.low refl, c.look-w.ensures.onto, c.look-w.ensures.high (c.in_ok-s.ensures.high refl)), (c.look-w.ensures.high (c.in_ok-s.ensures.high refl), c.requires.1, refl, omega arith))

pub build_choice-shape_of-cells : goal.build_choice-shape_of-cells
build_choice-shape_of-cells t c = c.build_alternatives.ensures.kept.same ∙ c.in_ok-s.ensures.same

pub build_choice-returns : goal.build_choice-returns
build_choice-returns t c = choice-more c.in_ok-s.ensures refl c.look-w.ensures refl c.build_alternatives.ensures

pub build_cycle-build_actions-requires : goal.build_cycle-build_actions-requires
build_cycle-build_actions-requires t c = (omega (arith, appends-length c.put-c.ensures), (omega (arith, appends-length c.put-c.ensures), c.requires.1))

pub build_cycle-shape_of-cells-in_err-b : goal.build_cycle-shape_of-cells-in_err-b
build_cycle-shape_of-cells-in_err-b t c = c.in_err-b.ensures.kept.same ∙ appends-length c.put-c.ensures

pub build_cycle-returns-in_err-b : goal.build_cycle-returns-in_err-b
build_cycle-returns-in_err-b t c = let p = err_from_is_err_and c.from_residual.result c.from_residual.ensures.1 in rw (p.1, p.2) (cycle-fail c.put-c.ensures c.in_err-b.ensures (fault-some _))

pub build_cycle-shape_of-cells : goal.build_cycle-shape_of-cells
build_cycle-shape_of-cells t c = c.in_ok-b.ensures.kept.same ∙ appends-length c.put-c.ensures

pub build_cycle-returns : goal.build_cycle-returns
build_cycle-returns t c = cycle-end c.put-c.ensures c.in_ok-b.ensures refl c.look-w.ensures refl refl refl refl refl

pub build_labelled-resolve_labels-requires : goal.build_labelled-resolve_labels-requires
build_labelled-resolve_labels-requires t c = (omega arith, c.requires.1, omega arith)

pub build_labelled-shape_of-seen-in_err-l : goal.build_labelled-shape_of-seen-in_err-l
build_labelled-shape_of-seen-in_err-l t c = c.in_err-l.ensures.same

pub build_labelled-returns-in_err-l : goal.build_labelled-returns-in_err-l
build_labelled-returns-in_err-l t c = let p = err_from_is_err_and c.from_residual.result c.from_residual.ensures.1 in rw (p.1, p.2) (labelled-fail c.in_err-l.ensures (fault-some _) refl refl refl)

pub build_labelled-put_labels-c-requires : goal.build_labelled-put_labels-c-requires
build_labelled-put_labels-c-requires t c = omega (arith, c.in_ok-l.ensures.same, c.in_ok-l.ensures.more refl, c.in_ok-l.ensures.room refl)

pub build_labelled-build_actions-requires : goal.build_labelled-build_actions-requires
build_labelled-build_actions-requires t c = (omega (arith, c.requires.0, c.requires.1, appends-length c.put_labels-c.ensures, c.in_ok-l.ensures.moves refl, c.look-w.ensures.onto, c.look-w.ensures.high (c.in_ok-l.ensures.high refl)), (omega (arith, c.requires.0, c.requires.1, appends-length c.put_labels-c.ensures, c.in_ok-l.ensures.moves refl, c.look-w.ensures.onto, c.look-w.ensures.high (c.in_ok-l.ensures.high refl)), c.requires.1))

pub build_labelled-shape_of-seen-in_err-built : goal.build_labelled-shape_of-seen-in_err-built
build_labelled-shape_of-seen-in_err-built t c = omega (arith, c.in_ok-l.ensures.same, appends-length c.put_labels-c.ensures, c.in_err-built.ensures.kept.same)

pub build_labelled-shape_of-seen : goal.build_labelled-shape_of-seen
build_labelled-shape_of-seen t c = omega (arith, c.in_ok-l.ensures.same, appends-length c.put_labels-c.ensures, c.in_ok-built.ensures.kept.same)

pub build_labelled-shape_of-cells-in_err-built : goal.build_labelled-shape_of-cells-in_err-built
build_labelled-shape_of-cells-in_err-built t c = omega (arith, c.in_ok-l.ensures.same, appends-length c.put_labels-c.ensures, c.in_err-built.ensures.kept.same)

pub build_labelled-shape_of-cells : goal.build_labelled-shape_of-cells
build_labelled-shape_of-cells t c = omega (arith, c.in_ok-l.ensures.same, appends-length c.put_labels-c.ensures, c.in_ok-built.ensures.kept.same)

pub build_labelled-returns-in_err-built : goal.build_labelled-returns-in_err-built
build_labelled-returns-in_err-built t c = let p = err_from_is_err_and c.from_residual-in_err-built.result c.from_residual-in_err-built.ensures.1 in rw (p.1, p.2) (labelled-off (labelled-more (omega (arith, c.requires.2, c.requires.3)) c.in_ok-l.ensures refl c.look-w.ensures c.put_labels-c.ensures c.in_err-built.ensures refl) (fault-some _))

pub build_labelled-returns : goal.build_labelled-returns
build_labelled-returns t c = labelled-more (omega (arith, c.requires.2, c.requires.3)) c.in_ok-l.ensures refl c.look-w.ensures c.put_labels-c.ensures c.in_ok-built.ensures refl

pub build_otherwise-build_actions-requires : goal.build_otherwise-build_actions-requires
build_otherwise-build_actions-requires t c = (omega (arith, appends-length c.put-c.ensures, c.look-w.ensures.onto, c.look-w.ensures.high (omega arith)), (omega (arith, appends-length c.put-c.ensures, c.look-w.ensures.onto, c.look-w.ensures.high (omega arith)), c.requires.1))

pub build_otherwise-shape_of-cells-in_err-b : goal.build_otherwise-shape_of-cells-in_err-b
build_otherwise-shape_of-cells-in_err-b t c = c.in_err-b.ensures.kept.same ∙ appends-length c.put-c.ensures

pub build_otherwise-returns-in_err-b : goal.build_otherwise-returns-in_err-b
build_otherwise-returns-in_err-b t c = let p = err_from_is_err_and c.from_residual.result c.from_residual.ensures.1 in rw (p.1, p.2) (other-fail c.look-w.ensures c.put-c.ensures c.in_err-b.ensures (fault-some _))

pub build_otherwise-shape_of-cells : goal.build_otherwise-shape_of-cells
build_otherwise-shape_of-cells t c = c.in_ok-b.ensures.kept.same ∙ appends-length c.put-c.ensures

pub build_otherwise-returns : goal.build_otherwise-returns
build_otherwise-returns t c = other-end c.look-w.ensures c.put-c.ensures c.in_ok-b.ensures refl c.look-e.ensures refl refl refl refl refl
