-- `meter::next_numbered` meets its contract: all that was passed is 0.
use native.Mathlib.Omega.{arith}
use Rattle.meter.specs.Store.{numbers_of}
use Rattle.meter.proofs.Store.{zero-none, zero_more}
use Rattle.meter.proofs.next_numbered.Goals as goal

pub loop-at-init : goal.loop-at-init
loop-at-init c = (omega arith, omega arith, zero-none (numbers_of c.args.rows.now) c.args.i)

pub returns-then-next-at : goal.returns-then-next-at
returns-then-next-at c = (c.loop-at.invariant.0, c.loop-at.invariant.1, c.loop-at.invariant.2)

pub loop-at-smaller : goal.loop-at-smaller
loop-at-smaller c = omega (arith, c.past_zeros-next.ensures.0, c.past_zeros-next.ensures.1, c.if-next-at.false)

pub loop-at-preserved : goal.loop-at-preserved
loop-at-preserved c = (omega (arith, c.past_zeros-next.ensures.0, c.loop-at.invariant.0), c.past_zeros-next.ensures.1, zero_more c.loop-at.invariant.2 c.past_zeros-next.ensures.2)

pub returns : goal.returns
returns c = (c.loop-at.invariant.0, c.loop-at.invariant.1, c.loop-at.invariant.2)
