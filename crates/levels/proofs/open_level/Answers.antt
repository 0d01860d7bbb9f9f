-- `levels::open_level` meets its contract.
use Rattle.levels.proofs.Putting.{open-right, open-left}
use Rattle.levels.proofs.open_level.Goals as goal

-- src/lib.rt:147:9
pub returns-then-right : goal.returns-then-right
returns-then-right c = open-right _ c.if-right.true c.put_two-c.ensures c.put.ensures

-- src/lib.rt:141:1
pub returns-else-right : goal.returns-else-right
returns-else-right c = open-left _ c.if-right.false c.put_two-c.ensures c.put_two.ensures
