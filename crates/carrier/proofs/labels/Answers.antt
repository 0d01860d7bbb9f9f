-- `carrier::labels` meets its contract.
use Rattle.carrier.proofs.Laws.{labels-none, labels-some}
use Rattle.carrier.proofs.labels.Goals as goal

pub returns-then-n-eq0 : goal.returns-then-n-eq0
returns-then-n-eq0 c = labels-none c.args.n c.if-n-eq0.true

pub returns-else-n-eq0 : goal.returns-else-n-eq0
returns-else-n-eq0 c = labels-some c.args.n c.if-n-eq0.false
