-- `levels::close_level` meets its contract.
use Rattle.levels.proofs.Putting.{close-right, close-left}
use Rattle.levels.proofs.close_level.Goals as goal

-- src/lib.rt:157:9
pub returns-then-right : goal.returns-then-right
returns-then-right c = close-right _ c.if-right.true c.put_two-c.ensures c.put.ensures

-- src/lib.rt:152:1
pub returns-else-right : goal.returns-else-right
returns-else-right c = close-left _ c.if-right.false c.put_two-a.ensures c.put_two-b.ensures c.put-else-right.ensures
