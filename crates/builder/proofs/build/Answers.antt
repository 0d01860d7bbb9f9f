-- `builder::build` meets its contract.
use Rattle.std.proofs.lemmas.Result.{err_from_is_err_and}
use Rattle.symbols.proofs.Numbered.{fault-some}
use mathlib.Core.Path.{refl, ◌∙◌}
use native.Mathlib.Omega.{arith}
use Rattle.builder.proofs.Whole.{row-fail, row_last, row-over, row_next, whole-done}
use Rattle.builder.proofs.build.Goals as goal

pub loop-r-init : goal.loop-r-init
loop-r-init c = (omega arith, c.requires.0, refl, c.requires.3, c.requires.4, λ cs a b r e. e)

pub build_rule-requires : goal.build_rule-requires
build_rule-requires c = (omega (arith, c.requires.1, c.requires.2, c.loop-r.invariant.0, c.loop-r.invariant.1), c.requires.2, omega (arith, c.requires.1, c.requires.2, c.loop-r.invariant.0, c.loop-r.invariant.1), omega (arith, c.requires.1, c.requires.2, c.loop-r.invariant.0, c.loop-r.invariant.1))

pub shape_of-cells-in_err-r : goal.shape_of-cells-in_err-r
shape_of-cells-in_err-r c = omega (arith, c.requires.3, c.requires.4, c.loop-r.invariant.2, c.loop-r.invariant.3, c.loop-r.invariant.4, c.in_err-r.ensures.same)

pub shape_of-starts-in_err-r : goal.shape_of-starts-in_err-r
shape_of-starts-in_err-r c = omega (arith, c.requires.3, c.requires.4, c.loop-r.invariant.2, c.loop-r.invariant.3, c.loop-r.invariant.4, c.in_err-r.ensures.same)

pub shape_of-sorts-in_err-r : goal.shape_of-sorts-in_err-r
shape_of-sorts-in_err-r c = omega (arith, c.requires.3, c.requires.4, c.loop-r.invariant.2, c.loop-r.invariant.3, c.loop-r.invariant.4, c.in_err-r.ensures.same)

pub returns-in_err-r : goal.returns-in_err-r
returns-in_err-r c = let p = err_from_is_err_and c.from_residual.result c.from_residual.ensures.1 in rw (p.1, p.2) (whole-done c.requires.2.few (c.loop-r.invariant.5 _ _ _ _ (row-fail c.in_err-r.ensures (fault-some _) refl refl refl)))

pub store-requires : goal.store-requires
store-requires c = omega (arith, c.loop-r.invariant.0, c.loop-r.invariant.3, c.loop-r.invariant.4)

pub overflow_add-next : goal.overflow_add-next
overflow_add-next c = omega (arith, c.loop-r.invariant.0)

pub shape_of-cells-then-w-ne-NAME : goal.shape_of-cells-then-w-ne-NAME
shape_of-cells-then-w-ne-NAME c = omega (arith, c.requires.3, c.requires.4, c.loop-r.invariant.2, c.loop-r.invariant.3, c.loop-r.invariant.4, c.in_ok-r.ensures.same, c.store.auto.starts, c.store.auto.sorts)

pub shape_of-starts-then-w-ne-NAME : goal.shape_of-starts-then-w-ne-NAME
shape_of-starts-then-w-ne-NAME c = omega (arith, c.requires.3, c.requires.4, c.loop-r.invariant.2, c.loop-r.invariant.3, c.loop-r.invariant.4, c.in_ok-r.ensures.same, c.store.auto.starts, c.store.auto.sorts)

pub shape_of-sorts-then-w-ne-NAME : goal.shape_of-sorts-then-w-ne-NAME
shape_of-sorts-then-w-ne-NAME c = omega (arith, c.requires.3, c.requires.4, c.loop-r.invariant.2, c.loop-r.invariant.3, c.loop-r.invariant.4, c.in_ok-r.ensures.same, c.store.auto.starts, c.store.auto.sorts)

pub returns-then-w-ne-NAME : goal.returns-then-w-ne-NAME
returns-then-w-ne-NAME c = whole-done c.requires.2.few (c.loop-r.invariant.5 _ _ _ _ (row_last (omega (arith, c.requires.5, c.loop-r.invariant.2)) (omega (arith, c.loop-r.invariant.0, c.loop-r.invariant.3)) (omega (arith, c.loop-r.invariant.0, c.loop-r.invariant.4)) c.in_ok-r.ensures refl c.look-w.ensures c.if-w-ne-NAME.true c.store.ensures.starts_after c.store.ensures.sorts_after refl refl refl))

pub shape_of-cells-then-next-eq-RULES : goal.shape_of-cells-then-next-eq-RULES
shape_of-cells-then-next-eq-RULES c = omega (arith, c.requires.3, c.requires.4, c.loop-r.invariant.2, c.loop-r.invariant.3, c.loop-r.invariant.4, c.in_ok-r.ensures.same, c.store.auto.starts, c.store.auto.sorts)

pub shape_of-starts-then-next-eq-RULES : goal.shape_of-starts-then-next-eq-RULES
shape_of-starts-then-next-eq-RULES c = omega (arith, c.requires.3, c.requires.4, c.loop-r.invariant.2, c.loop-r.invariant.3, c.loop-r.invariant.4, c.in_ok-r.ensures.same, c.store.auto.starts, c.store.auto.sorts)

pub shape_of-sorts-then-next-eq-RULES : goal.shape_of-sorts-then-next-eq-RULES
shape_of-sorts-then-next-eq-RULES c = omega (arith, c.requires.3, c.requires.4, c.loop-r.invariant.2, c.loop-r.invariant.3, c.loop-r.invariant.4, c.in_ok-r.ensures.same, c.store.auto.starts, c.store.auto.sorts)

pub returns-then-next-eq-RULES : goal.returns-then-next-eq-RULES
returns-then-next-eq-RULES c = whole-done c.requires.2.few (c.loop-r.invariant.5 _ _ _ _ (row-over c.in_ok-r.ensures refl c.look-w.ensures c.if-w-ne-NAME.false c.if-next-eq-RULES.true))

pub loop-r-smaller : goal.loop-r-smaller
loop-r-smaller c = omega (arith, c.loop-r.invariant.0)

pub loop-r-preserved : goal.loop-r-preserved
loop-r-preserved c = (omega (arith, c.loop-r.invariant.0, c.if-next-eq-RULES.false), c.in_ok-r.ensures.high refl, c.in_ok-r.ensures.same ∙ c.loop-r.invariant.2, c.store.auto.starts ∙ c.loop-r.invariant.3, c.store.auto.sorts ∙ c.loop-r.invariant.4, λ cs a b r e. c.loop-r.invariant.5 cs a b r (row_next c.requires.2.few (omega (arith, c.requires.5, c.loop-r.invariant.2)) (omega (arith, c.loop-r.invariant.0, c.loop-r.invariant.3)) (omega (arith, c.loop-r.invariant.0, c.loop-r.invariant.4)) c.in_ok-r.ensures refl c.look-w.ensures c.if-w-ne-NAME.false c.store.ensures.starts_after c.store.ensures.sorts_after e))
