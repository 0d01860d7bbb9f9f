-- `resolver::put_operation` meets its contract.
use mathlib.Core.Path.{refl}
use Rattle.resolver.proofs.Appending.{operation-alone, operation-with}
use Rattle.resolver.proofs.put_operation.Goals as goal

pub returns-in-Some : goal.returns-in-Some
returns-in-Some c = rw c.in-Some.is (operation-with _ c.number-op.ensures.0 refl c.put_two.ensures)

pub returns-in-None : goal.returns-in-None
returns-in-None c = rw c.in-None.is (operation-alone _ _ c.number-op.ensures.0 refl c.put.ensures)
