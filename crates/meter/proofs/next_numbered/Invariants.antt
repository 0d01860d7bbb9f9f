-- `meter::next_numbered` meets its contract: all that was passed is 0.
use Prim.Native.Nat.{◌≤◌, ◌-◌}
use Rattle.meter.specs.Steps.{ZeroIn}
use Rattle.meter.specs.Store.{numbers_of}
use Rattle.meter.proofs.next_numbered.Given as goal

abbrev pub invariant-loop-at : goal.invariant-loop-at
invariant-loop-at l = (l.i ≤ l.at) × (l.at ≤ l.to) × ZeroIn (numbers_of l.rows) l.i l.at

abbrev pub decreases-loop-at : goal.decreases-loop-at
decreases-loop-at l = l.to - l.at
