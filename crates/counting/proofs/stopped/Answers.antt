-- `counting::stopped` meets its contract.
use Rattle.walker.specs.Shape.{ending_number}
use Rattle.counting.proofs.stopped.Goals as goal

pub returns-clause-value : goal.returns-clause-value
unfolding ending_number
returns-clause-value c = c.ended.ensures
