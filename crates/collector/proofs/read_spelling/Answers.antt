-- `collector::read_spelling` meets its contract.
use Rattle.collector.proofs.Laws.{spelling-never, spelling-none, spelling-there}
use Rattle.collector.proofs.read_spelling.Goals as goal

pub returns-then-w-eq-STRING : goal.returns-then-w-eq-STRING
returns-then-w-eq-STRING c = rw c.from.ensures (spelling-there c.args.strings c.if-strings.true c.look-w.ensures c.if-w-eq-STRING.true)

pub returns-else-w-eq-STRING : goal.returns-else-w-eq-STRING
returns-else-w-eq-STRING c = spelling-none c.args.strings c.requires c.look-w.ensures c.if-w-eq-STRING.false

pub returns-else-strings : goal.returns-else-strings
returns-else-strings c = spelling-never c.args.strings c.requires c.if-strings.false
