-- `partrules::open_rules` meets its contract.
use Rattle.symbols.proofs.Numbered.{fault-some}
use mathlib.Core.Path.{refl, ◌∙◌}
use native.Mathlib.Omega.{arith}
use Rattle.partrules.proofs.Ruling.{rules-fail, rules-last, rules-over, rules-next}
use Rattle.partrules.proofs.open_rules.Goals as goal

pub loop-d-init : goal.loop-d-init
loop-d-init c = (omega arith, c.requires.0, refl, refl, refl, λ o a h. h)

pub open_rule-requires : goal.open_rule-requires
open_rule-requires c = let v = c.loop-d.invariant in let g = c.requires in (v.1, g.1, g.2, omega (arith, v.2, g.3), omega (arith, v.2, g.4), omega (arith, v.3, g.5), g.6)

pub shape_of-seen-in-Err : goal.shape_of-seen-in-Err
shape_of-seen-in-Err c = c.open_rule.auto.seen ∙ c.loop-d.invariant.2

pub shape_of-cells-in-Err : goal.shape_of-cells-in-Err
shape_of-cells-in-Err c = c.open_rule.auto.cells ∙ c.loop-d.invariant.3

pub shape_of-object-in-Err : goal.shape_of-object-in-Err
shape_of-object-in-Err c = c.open_rule.auto.object ∙ c.loop-d.invariant.4

pub returns-in-Err : goal.returns-in-Err
returns-in-Err c = c.loop-d.invariant.5 _ _ (rules-fail c.in-Err.ensures (fault-some _) c.failed.ensures.0 c.failed.ensures.1 c.failed.ensures.2)

pub overflow_add-next : goal.overflow_add-next
overflow_add-next c = omega (arith, c.loop-d.invariant.0)

pub shape_of-seen-then-w-ne-NAME : goal.shape_of-seen-then-w-ne-NAME
shape_of-seen-then-w-ne-NAME c = c.open_rule.auto.seen ∙ c.loop-d.invariant.2

pub shape_of-cells-then-w-ne-NAME : goal.shape_of-cells-then-w-ne-NAME
shape_of-cells-then-w-ne-NAME c = c.open_rule.auto.cells ∙ c.loop-d.invariant.3

pub shape_of-object-then-w-ne-NAME : goal.shape_of-object-then-w-ne-NAME
shape_of-object-then-w-ne-NAME c = c.open_rule.auto.object ∙ c.loop-d.invariant.4

pub returns-then-w-ne-NAME : goal.returns-then-w-ne-NAME
returns-then-w-ne-NAME c = c.loop-d.invariant.5 _ _ (rules-last c.in-Ok.ensures refl c.next_word-w.ensures c.if-w-ne-NAME.true c.finished.ensures.0 c.finished.ensures.1 c.finished.ensures.2)

pub shape_of-seen-then-next-eq-RULES : goal.shape_of-seen-then-next-eq-RULES
shape_of-seen-then-next-eq-RULES c = c.open_rule.auto.seen ∙ c.loop-d.invariant.2

pub shape_of-cells-then-next-eq-RULES : goal.shape_of-cells-then-next-eq-RULES
shape_of-cells-then-next-eq-RULES c = c.open_rule.auto.cells ∙ c.loop-d.invariant.3

pub shape_of-object-then-next-eq-RULES : goal.shape_of-object-then-next-eq-RULES
shape_of-object-then-next-eq-RULES c = c.open_rule.auto.object ∙ c.loop-d.invariant.4

pub returns-then-next-eq-RULES : goal.returns-then-next-eq-RULES
returns-then-next-eq-RULES c = c.loop-d.invariant.5 _ _ (rules-over c.in-Ok.ensures refl c.next_word-w.ensures (omega (arith, c.if-w-ne-NAME.false)) c.if-next-eq-RULES.true)

pub loop-d-smaller : goal.loop-d-smaller
loop-d-smaller c = omega (arith, c.loop-d.invariant.0)

pub loop-d-preserved : goal.loop-d-preserved
loop-d-preserved c =
    let v = c.loop-d.invariant in
    let u = c.open_rule in (
      omega (arith, v.0, c.if-next-eq-RULES.false),
      c.in-Ok.ensures.high refl,
      c.open_rule.auto.seen ∙ v.2,
      c.open_rule.auto.cells ∙ v.3,
      c.open_rule.auto.object ∙ v.4,
      λ o a h. v.5 o a (rules-next c.in-Ok.ensures refl c.next_word-w.ensures (omega (arith, c.if-w-ne-NAME.false)) (rw c.open_rule.auto.cells at h)),
    )
