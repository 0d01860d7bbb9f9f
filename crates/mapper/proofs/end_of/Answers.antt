use Rattle.mapper.proofs.Made.{end-next, end-over}
use Rattle.mapper.proofs.end_of.Goals as goal

-- src/lib.rt:94:13
pub returns-then-next-rules : goal.returns-then-next-rules
returns-then-next-rules c = end-next c.number.ensures.0 c.number-next.ensures.0 c.if-j-number.true c.if-next-rules.true

-- src/lib.rt:87:1
pub returns-else-next-rules : goal.returns-else-next-rules
returns-else-next-rules c = end-over c.number-next.ensures.0 c.if-next-rules.false
