-- `collector::collect_rules` meets its contract.
use native.Mathlib.Omega.{arith}
use mathlib.Core.Path.{◌∙◌}
use Rattle.collector.proofs.Laws.{rules-last, rules_more, rules-stuck}
use Rattle.collector.proofs.collect_rules.Goals.{then-w-ne-NAME-via-then-w-ne-NAME, then-w-ne-NAME-via-else-w-ne-NAME+then-r-i}
use Rattle.collector.proofs.collect_rules.Goals as goal

pub returns-then-w-ne-NAME : goal.returns-then-w-ne-NAME
returns-then-w-ne-NAME c = c.loop-i.invariant.5 _ _ (elim c.then-w-ne-NAME.branch [
  | then-w-ne-NAME-via-then-w-ne-NAME w ↦ rules-last c.collect_rule-r.ensures c.look-w.ensures w.if-w-ne-NAME.true
  | then-w-ne-NAME-via-else-w-ne-NAME+then-r-i w ↦ rules-stuck c.collect_rule-r.ensures w.if-r-i.true
])

pub loop-i-preserved : goal.loop-i-preserved
loop-i-preserved c = (omega (arith, c.if-r-i.false), c.collect_rule-r.ensures.bounds.high, c.collect_rule-r.ensures.bounds.small, c.collect_rule-r.auto.rows ∙ c.loop-i.invariant.3, omega (arith, c.collect_rule-r.ensures.bounds.more), λ rows' r e. c.loop-i.invariant.5 rows' r (rules_more c.collect_rule-r.ensures c.look-w.ensures c.if-w-ne-NAME.false c.collect_rule-r.auto.rows (λ z. omega (arith, z)) e))
