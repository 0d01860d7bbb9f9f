use mathlib.Core.Path.{refl, ◌∙◌}
use native.Mathlib.Omega.{arith}
use Rattle.emitter.proofs.Rules.{rules-start, rules-go, rules-end}
use Rattle.emitter.proofs.emit_rules.Goals as goal

pub loop-r-init : goal.loop-r-init
loop-r-init c = let a = c.args in (omega arith, omega arith, refl, refl, rules-start a.cells.now a.sorts.now a.rules a.out.now a.slots.now)

pub place_rule-requires : goal.place_rule-requires
place_rule-requires c = let P = c.requires in let o = c.loop-r in omega arith

pub emit_rule-here-requires : goal.emit_rule-here-requires
emit_rule-here-requires c = let P = c.requires in let o = c.loop-r in record { inside = o.invariant.0; short = P.0; room = omega arith }

pub loop-r-preserved : goal.loop-r-preserved
loop-r-preserved c = let P = c.requires in let a = c.args in let o = c.loop-r in let m = c.emit_rule-here.ensures.moved in (
  m.inside,
  omega (arith, m.few, m.on),
  c.emit_rule-here.auto.out ∙ (c.place_rule.auto.out ∙ o.invariant.2),
  c.emit_rule-here.auto.slots ∙ (c.place_rule.auto.slots ∙ o.invariant.3),
  rules-go a.cells.now a.sorts.now a.rules a.slots.now a.out.now o.here.p o.here.at o.r c.sort_at.result _ _ o.out _ _ o.slots _ _ c.loop-r-test.true P.1 o.invariant.3 c.place_rule.auto.slots c.place_rule.ensures c.sort_at.ensures c.emit_rule-here.ensures.rule_done o.invariant.4,
)

pub returns : goal.returns
returns c = let a = c.args in let o = c.loop-r in rules-end a.cells.now a.sorts.now a.rules a.slots.now a.out.now o.here.p o.here.at o.r o.out o.slots (omega (arith, c.loop-r-test.false)) o.invariant.4
