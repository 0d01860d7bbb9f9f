-- `partwriter::put_front` meets its contract.
use Rattle.partwriter.specs.Put.{front}
use Rattle.partwriter.proofs.Putting.{puts_then}
use Rattle.partwriter.proofs.put_front.Goals as goal

pub returns : goal.returns
unfolding front
returns c = puts_then (puts_then (puts_then (puts_then c.put_two-a.ensures c.put_two-b.ensures) c.put_two-c.ensures) c.put-d.ensures) c.put_packed.ensures
