-- `collector::read_gives` meets its contract.
use Rattle.collector.proofs.Laws.{gives-not, gives-there}
use Rattle.collector.proofs.read_gives.Goals as goal

pub returns-then-w-eq-TWICE : goal.returns-then-w-eq-TWICE
returns-then-w-eq-TWICE c = rw c.from.ensures (gives-there c.look-w.ensures c.if-w-eq-TWICE.true c.look-t.ensures)

pub returns-else-w-eq-TWICE : goal.returns-else-w-eq-TWICE
returns-else-w-eq-TWICE c = gives-not c.requires c.look-w.ensures c.if-w-eq-TWICE.false
