-- `verdict::gathered` meets its contract: one cell more each time.
use Prim.Native.Nat.{◌≤◌, ◌-◌}
use mathlib.Core.Path.{◌≡◌}
use lib.ListN.{length}
use Rattle.verdict.proofs.Growth.{Gathering}
use Rattle.verdict.proofs.gathered.Given as goal

abbrev pub invariant-loop-i : goal.invariant-loop-i
invariant-loop-i l = (l.i ≤ l.to) × (length l.wanted ≡ length l.initial.wanted) × Gathering l.cells l.from l.facts l.m l.r l.wanted l.n l.i

abbrev pub decreases-loop-i : goal.decreases-loop-i
decreases-loop-i l = l.to - l.i
