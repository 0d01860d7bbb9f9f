-- `resolver::put` meets its contract.
use native.Mathlib.Omega.{arith}
use Rattle.resolver.proofs.Appending.{appends-past}
use Rattle.resolver.proofs.put.Goals as goal

pub returns : goal.returns
returns c = appends-past _ _ _ (omega arith)
