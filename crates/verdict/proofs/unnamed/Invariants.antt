-- `verdict::unnamed` meets its contract: none of the facts looked at is one.
use Prim.Native.Nat.{◌≤◌, ◌-◌}
use mathlib.Core.Path.{◌≡◌}
use mathlib.Core.Bool.{false, not}
use lib.ListN.{take}
use Rattle.base.specs.Common.{member as listed}
use Rattle.verdict.specs.Told.{some_in}
use Rattle.verdict.proofs.unnamed.Given as goal

abbrev pub invariant-loop-i : goal.invariant-loop-i
invariant-loop-i l = (l.i ≤ l.m) × (false ≡ some_in l.facts l.i l.r (λ v. not (listed v (take l.n l.labels))))

abbrev pub decreases-loop-i : goal.decreases-loop-i
decreases-loop-i l = l.m - l.i
