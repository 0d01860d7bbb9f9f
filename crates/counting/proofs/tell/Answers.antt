-- `counting::tell` meets its contract.
use Rattle.counting.proofs.tell.Goals as goal

pub returns-then-writes : goal.returns-then-writes
returns-then-writes c = rw c.if-writes.true c.put_event.ensures
