-- `collector::collect_rule` meets its contract.
use Rattle.collector.proofs.Laws.{rule-read}
use Rattle.collector.proofs.collect_rule.Goals as goal

pub returns : goal.returns
returns c = rule-read c.look-w.ensures c.read_gives-third.ensures (rw c.from.ensures at c.put_row-c.ensures) c.behind_semicolon-to.ensures
