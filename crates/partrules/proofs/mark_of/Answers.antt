-- `partrules::mark_of` meets its contract.
use Rattle.partrules.proofs.Marking.{low-mark, high-mark}
use Rattle.partrules.proofs.mark_of.Goals as goal

pub returns-then-n-first : goal.returns-then-n-first
returns-then-n-first c = low-mark _ _ _ c.from-n.ensures c.if-n-first.true

pub returns-else-n-first : goal.returns-else-n-first
returns-else-n-first c = high-mark _ _ _ c.from-n.ensures c.if-n-first.false
