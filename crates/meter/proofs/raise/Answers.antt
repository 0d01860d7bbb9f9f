use native.Mathlib.Omega.{arith}
use Rattle.meter.proofs.Raising.{enough, higher}
use borrow.Author.Rules.{rules}
use Rattle.meter.proofs.raise.Goals as goal

-- src/lib.rt:121:9
pub put-requires : goal.put-requires
put-requires c = (search rules, omega (arith, (c.is_below.ensures.below c.if-is_below.true).0), omega (arith, (c.is_below.ensures.below c.if-is_below.true).1, c.capped.ensures), omega (arith, c.capped.ensures))

-- src/lib.rt:122:9
pub returns-then-is_below : goal.returns-then-is_below
returns-then-is_below c = rw c.put.ensures (higher c.is_below.ensures c.if-is_below.true c.capped.ensures)

-- src/lib.rt:116:1
pub returns : goal.returns
returns c = enough c.is_below.ensures c.if-is_below.false
