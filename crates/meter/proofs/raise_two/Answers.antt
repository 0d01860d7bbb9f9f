use Rattle.meter.proofs.Raising.{two}
use Rattle.meter.proofs.raise_two.Goals as goal

-- src/lib.rt:136:1
pub returns : goal.returns
returns c = two c.raise-a.ensures c.raise-b.ensures
