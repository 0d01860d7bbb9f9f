-- `resolver::resolve_any` meets its contract.
use Rattle.resolver.proofs.Rests.{any-goes}
use Rattle.resolver.proofs.resolve_any.Goals as goal

pub returns : goal.returns
returns c = λ text rows n lies. any-goes _ lies c.put-c.ensures c.went.ensures
