-- `levels::put_if` meets its contract.
use Rattle.levels.proofs.Putting.{entry-put, entry-passed}
use Rattle.levels.proofs.put_if.Goals as goal

-- src/lib.rt:105:9
pub returns-then-e-aim : goal.returns-then-e-aim
returns-then-e-aim c = entry-put _ _ _ _ _ c.if-e-aim.true c.put_operator.ensures

-- src/lib.rt:91:1
pub returns-else-e-aim : goal.returns-else-e-aim
returns-else-e-aim c = entry-passed _ _ _ _ _ _ _ c.if-e-aim.false c.requires.2
