-- `collector::collect_mechanism` meets its contract.
use Rattle.collector.proofs.Sections.{mechanism-read}
use Rattle.collector.proofs.collect_mechanism.Goals as goal

pub returns : goal.returns
returns c = mechanism-read c.look-n.ensures c.look-c.ensures c.collect_operations-o.ensures
