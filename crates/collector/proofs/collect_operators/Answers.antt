-- `collector::collect_operators` meets its contract.
use Rattle.collector.proofs.Sections.{operators-read}
use Rattle.collector.proofs.collect_operators.Goals as goal

pub returns : goal.returns
returns c = operators-read c.look-w.ensures c.look-colon.ensures c.look-first.ensures (rw c.from.ensures at c.put_row-c.ensures) c.behind_semicolon-to.ensures
