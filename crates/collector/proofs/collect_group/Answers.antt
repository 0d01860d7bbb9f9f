-- `collector::collect_group` meets its contract.
use Rattle.collector.proofs.Sections.{listed-section}
use Rattle.collector.proofs.collect_group.Goals as goal

pub returns : goal.returns
returns c = listed-section c.first_value-v.ensures c.class_of-class.ensures.same c.strings_of.ensures c.collect_listed-e.ensures c.with_top.ensures
