-- `collector::collect_operation` meets its contract.
use Rattle.collector.proofs.Laws.{operation-read}
use Rattle.collector.proofs.collect_operation.Goals as goal

pub returns : goal.returns
returns c = operation-read _ _ c.is_some-takes.ensures c.is_some-gives.ensures c.read_head-h.ensures c.next_number-value.ensures.1 c.put_row-c.ensures c.with_one-s.ensures
