-- `collector::collect_sections` meets its contract.
use native.Mathlib.Omega.{arith}
use mathlib.Core.Path.{◌∙◌}
use Rattle.collector.proofs.Sections.{sections-end, sections-more, sections-stuck}
use Rattle.collector.proofs.collect_sections.Goals as goal

pub returns-then-w-eq-RULES : goal.returns-then-w-eq-RULES
returns-then-w-eq-RULES c = c.loop-sofar.invariant.4 _ _ (sections-end c.loop-sofar.invariant.1 c.loop-sofar.invariant.2 c.look-w.ensures c.if-w-eq-RULES.true)

pub returns-then-x-i : goal.returns-then-x-i
returns-then-x-i c = c.loop-sofar.invariant.4 _ _ (sections-stuck c.look-w.ensures c.if-w-eq-RULES.false c.collect_section-x.ensures c.if-x-i.true)

pub loop-sofar-preserved : goal.loop-sofar-preserved
loop-sofar-preserved c = (omega (arith, c.if-x-i.false), c.collect_section-x.ensures.bounds.high, c.collect_section-x.ensures.bounds.small, c.collect_section-x.auto.rows ∙ c.loop-sofar.invariant.3, λ rows' r e. c.loop-sofar.invariant.4 rows' r (sections-more c.look-w.ensures c.if-w-eq-RULES.false c.collect_section-x.ensures c.collect_section-x.auto.rows e))
