-- `collector::read_takes` meets its contract.
use Rattle.collector.proofs.Laws.{takes-not, takes-there}
use Rattle.collector.proofs.read_takes.Goals as goal

pub returns-then-w-eq-OPENING : goal.returns-then-w-eq-OPENING
returns-then-w-eq-OPENING c = rw c.from.ensures (takes-there c.look-w.ensures c.if-w-eq-OPENING.true c.look-t.ensures c.look-c.ensures)

pub returns-else-w-eq-OPENING : goal.returns-else-w-eq-OPENING
returns-else-w-eq-OPENING c = takes-not c.requires c.look-w.ensures c.if-w-eq-OPENING.false
