-- `verdict::matches` meets its contract: none, or one value more each time.
use Prim.Native.Nat.{◌≤◌, ◌-◌}
use lib.ListN.{length}
use Rattle.verdict.proofs.Sets.{Matching}
use Rattle.verdict.proofs.matches.Given as goal

abbrev pub invariant-loop-j : goal.invariant-loop-j
invariant-loop-j l = (l.j ≤ length l.wanted) × Matching l.wanted l.v l.j l.s

abbrev pub decreases-loop-j : goal.decreases-loop-j
decreases-loop-j l = length l.wanted - l.j
