use Rattle.meter.proofs.Store.{mark-all, mark-none}
use Rattle.meter.proofs.mark_of.Goals as goal

pub returns-then-called-eq-ROWS : goal.returns-then-called-eq-ROWS
returns-then-called-eq-ROWS c = mark-all _ c.if-called-eq-ROWS.true

pub returns-else-called-eq-ROWS : goal.returns-else-called-eq-ROWS
returns-else-called-eq-ROWS c = mark-none _ c.if-called-eq-ROWS.false
