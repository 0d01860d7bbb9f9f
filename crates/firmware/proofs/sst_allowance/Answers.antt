-- `firmware::sst_allowance` meets its contract: of the walk that the bytes are, or of none.
use Rattle.walker.specs.View as view
use Rattle.firmware.specs.Entries.{allowance_or0}
use Rattle.firmware.proofs.sst_allowance.Goals as goal

pub returns-in-Some : goal.returns-in-Some
unfolding allowance_or0 view.walk_of view.walk_in
returns-in-Some c = rw (c.in-Some.ensures.walk.walk) c.low_word.ensures

pub returns-in-None : goal.returns-in-None
unfolding allowance_or0
returns-in-None c = rw (c.in-None.ensures.no_walk)
