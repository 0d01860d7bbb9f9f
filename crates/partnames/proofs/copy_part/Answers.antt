-- `partnames::copy_part` meets its contract.
use Rattle.partnames.proofs.HeadLaws.{part-copied-as}
use Rattle.partnames.proofs.copy_part.Goals as goal

pub returns : goal.returns
returns c = part-copied-as c.part_inside-r.ensures c.requires.2 c.number.ensures.0 c.number-2.ensures.0 c.put_part.ensures
