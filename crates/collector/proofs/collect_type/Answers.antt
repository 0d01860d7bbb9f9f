-- `collector::collect_type` meets its contract.
use Rattle.collector.proofs.Sections.{type-read}
use Rattle.collector.proofs.collect_type.Goals as goal

pub returns : goal.returns
returns c = type-read c.look-w.ensures (rw c.from.ensures at c.put_row-c.ensures) c.put_row-c.auto.rows c.collect_listed-e.ensures
