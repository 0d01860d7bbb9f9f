-- `collector::collect` meets its contract.
use Rattle.collector.proofs.Sections.{collected}
use Rattle.collector.proofs.collect.Goals as goal

pub returns : goal.returns
returns c = collected c.collect_sections-s.auto.rows c.collect_rules-count.auto.rows c.collect_sections-s.ensures c.look-h.ensures c.collect_rules-count.ensures
