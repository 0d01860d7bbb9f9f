-- `maker::entries_at` meets its contract.
use Rattle.maker.proofs.Entering.{place-cut}
use Rattle.maker.proofs.entries_at.Goals as goal

pub returns : goal.returns
returns c = place-cut _ _ _ c.number.ensures.0 c.min.ensures
