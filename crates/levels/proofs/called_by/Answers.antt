-- `levels::called_by` meets its contract.
use Rattle.levels.proofs.Putting.{called-own, called-higher}
use Rattle.levels.proofs.called_by.Goals as goal

-- `levels::called_by` meets its contract.
-- src/lib.rt:169:9
pub returns-then-x : goal.returns-then-x
returns-then-x c = called-own _ _ _ c.if-x.true

-- src/lib.rt:165:1
pub returns-else-x : goal.returns-else-x
returns-else-x c = called-higher _ _ _ c.if-x.false
