-- `verdict::asks` meets its contract: none of those looked at is v.
use Prim.Native.Nat.{ℕ, ◌≤◌, ◌<◌, ◌-◌}
use mathlib.Core.Path.{◌≡◌}
use mathlib.Core.Bool.{false}
use lib.Dec.{eqb}
use lib.ListN.{length, get_or}
use Rattle.verdict.proofs.asks.Given as goal

abbrev pub invariant-loop-j : goal.invariant-loop-j
invariant-loop-j l = (l.j ≤ length l.wanted) × (l.some ≡ false → (i : ℕ) → i < l.j → eqb l.v (get_or l.wanted i 0) ≡ false)

abbrev pub decreases-loop-j : goal.decreases-loop-j
decreases-loop-j l = length l.wanted - l.j
