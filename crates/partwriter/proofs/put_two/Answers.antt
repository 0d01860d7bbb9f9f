-- `partwriter::put_two` meets its contract.
use Rattle.partwriter.proofs.Putting.{puts_then}
use Rattle.partwriter.proofs.put_two.Goals as goal

pub returns : goal.returns
returns c = puts_then c.put-n.ensures c.put.ensures
