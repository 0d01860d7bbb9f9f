use borrow.Author.Rules.{rules}
use Rattle.meter.proofs.Finds.{begun-next}
use Rattle.meter.proofs.begin.Goals as goal

pub loop-start-preserved : goal.loop-start-preserved
loop-start-preserved c = (begun-next c.loop-start.invariant.0 c.loop-start-test.true c.raise.ensures, search rules)
