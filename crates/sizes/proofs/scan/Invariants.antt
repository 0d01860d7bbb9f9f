use Prim.Native.Nat.{◌+◌, ◌*◌, ◌-◌, ◌≤◌}
use lib.ListN.{length}
use Rattle.sizes.proofs.Leave.{Runs}
use Rattle.sizes.proofs.scan.Given as goal

abbrev pub invariant-loop-d : goal.invariant-loop-d
invariant-loop-d l = (l.p ≤ l.q) × (l.d ≤ l.q + 1) × (l.q + l.d ≤ 2 * length l.cells + 300) × (l.w + 400 * l.p ≤ 400 * (length l.cells - (length l.cells - l.q))) × Runs l.cells l.p l.q l.w l.d

abbrev pub decreases-loop-d : goal.decreases-loop-d
decreases-loop-d l = 2 * (length l.cells - l.q) + l.d
