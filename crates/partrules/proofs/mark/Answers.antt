-- `partrules::mark` meets its contract.
use Rattle.partrules.proofs.Seeing.{marks-row, marks-past, marks-none}
use Rattle.partrules.proofs.mark.Goals as goal

pub returns-then-i-seen : goal.returns-then-i-seen
returns-then-i-seen c = marks-row _ _ c.in-Some.ensures.same

pub returns-else-i-seen : goal.returns-else-i-seen
returns-else-i-seen c = marks-past _ _ c.in-Some.ensures.same c.if-i-seen.false

pub returns-in_default : goal.returns-in_default
returns-in_default c = marks-none _ _ c.in_default.ensures.same
