-- `collector::collect_entry` meets its contract.
use Rattle.collector.proofs.Laws.{entry_read}
use Rattle.collector.proofs.collect_entry.Goals as goal

pub returns : goal.returns
returns c = entry_read c.requires.4 c.look-w.ensures c.read_spelling-second.ensures c.read_count-n.ensures (rw c.from.ensures at c.put_row-c.ensures)
