-- `firmware::sst_reason` meets its contract: of the walk that the bytes are, or of none.
use Rattle.walker.specs.View as view
use Rattle.firmware.specs.Entries.{reason_or_none}
use Rattle.firmware.proofs.sst_reason.Goals as goal

pub returns-in-Some : goal.returns-in-Some
unfolding reason_or_none view.walk_of view.walk_in
returns-in-Some c = rw (c.in-Some.ensures.walk.walk) c.reason_or_none.ensures

pub returns-in-None : goal.returns-in-None
unfolding reason_or_none
returns-in-None c = rw (c.in-None.ensures.no_walk)
