-- `partrules::sign` meets its contract.
use Rattle.partrules.proofs.Calling.{sign-of}
use Rattle.partrules.proofs.sign.Goals as goal

pub returns : goal.returns
returns c = sign-of _ _ c.from.ensures
