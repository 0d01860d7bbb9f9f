-- `verdict::itself` meets its contract: one rule after the other.
use Prim.Native.Nat.{◌≤◌, ◌-◌}
use mathlib.Core.Path.{◌≡◌}
use Rattle.verdict.specs.Told.{row_of, member}
use Rattle.finishing.specs.Test.{some_below}
use Rattle.verdict.proofs.itself.Given as goal

abbrev pub invariant-loop-r : goal.invariant-loop-r
invariant-loop-r l = (l.r ≤ l.n) × (l.some ≡ some_below l.r (λ r'. member (row_of l.rows r') r'))

abbrev pub decreases-loop-r : goal.decreases-loop-r
decreases-loop-r l = l.n - l.r
