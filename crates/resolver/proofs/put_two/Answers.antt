-- `resolver::put_two` meets its contract.
use Rattle.resolver.proofs.Appending.{appends-then}
use Rattle.resolver.proofs.put_two.Goals as goal

pub returns : goal.returns
returns c = appends-then c.put-c.ensures c.put.ensures
