-- `meter::is_below` meets its contract.
use borrow.Author.Tests.{le-ltb}
use Rattle.meter.proofs.Raising.{below-past, below-test}
use Rattle.meter.proofs.is_below.Goals as goal

pub returns-then-i-lt-HALF : goal.returns-then-i-lt-HALF
returns-then-i-lt-HALF c = below-test c.if-i-lt-HALF.true c.number.ensures c.capped.ensures

pub returns-else-i-lt-HALF : goal.returns-else-i-lt-HALF
returns-else-i-lt-HALF c = rw (le-ltb c.args.i 4353 c.if-i-lt-HALF.false) (below-past c.if-i-lt-HALF.false)
