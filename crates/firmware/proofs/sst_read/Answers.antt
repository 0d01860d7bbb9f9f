-- `firmware::sst_read` meets its contract: of the walk that the bytes are, or of none.
use Rattle.walker.specs.View as view
use Rattle.firmware.specs.Entries.{read_or0}
use Rattle.firmware.proofs.sst_read.Goals as goal

pub returns-in-Some : goal.returns-in-Some
unfolding read_or0 view.walk_of view.walk_in
returns-in-Some c = rw (c.in-Some.ensures.walk.walk)

pub returns-in-None : goal.returns-in-None
unfolding read_or0
returns-in-None c = rw (c.in-None.ensures.no_walk)
