-- `firmware::sst_phase` meets its contract: of the walk that the bytes are, or of none.
use Rattle.walker.specs.View as view
use Rattle.firmware.specs.Entries.{phase_number}
use Rattle.firmware.proofs.sst_phase.Goals as goal

pub returns-in-Some : goal.returns-in-Some
unfolding phase_number view.walk_of view.walk_in
returns-in-Some c = rw (c.in-Some.ensures.walk.walk) c.phase_number.ensures

pub returns-in-None : goal.returns-in-None
unfolding phase_number
returns-in-None c = rw (c.in-None.ensures.no_walk)
