-- `verdict::holds` meets its contract: what is left to look at has v exactly if all has.
use Prim.Native.Nat.{◌≤◌, ◌-◌}
use mathlib.Core.Path.{◌≡◌}
use lib.ListN.{take, drop}
use Rattle.base.specs.Common.{member}
use Rattle.verdict.proofs.holds.Given as goal

abbrev pub invariant-loop-i : goal.invariant-loop-i
invariant-loop-i l = (l.i ≤ l.to) × (member l.v (take (l.to - l.from) (drop l.from l.cells)) ≡ member l.v (take (l.to - l.i) (drop l.i l.cells)))

abbrev pub decreases-loop-i : goal.decreases-loop-i
decreases-loop-i l = l.to - l.i
