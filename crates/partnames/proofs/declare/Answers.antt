-- `partnames::declare` meets its contract.
use Rattle.partnames.proofs.Listing.{declared}
use Rattle.partnames.proofs.declare.Goals as goal

pub returns : goal.returns
returns c = declared c.collect_sections-s.auto.rows c.collect_list-l.auto.rows c.collect_sections-s.ensures c.look-head.ensures c.collect_list-l.ensures
