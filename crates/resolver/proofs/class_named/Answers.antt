-- `resolver::class_named` meets its contract.
use Rattle.resolver.proofs.Looking.{class-there, class-nowhere}
use Rattle.resolver.proofs.class_named.Goals as goal

pub returns-in-Some : goal.returns-in-Some
returns-in-Some c = class-there _ _ c.in-Some.i c.in-Some.ensures.same

pub returns-in-None : goal.returns-in-None
returns-in-None c = class-nowhere _ _ c.in-None.ensures.same
