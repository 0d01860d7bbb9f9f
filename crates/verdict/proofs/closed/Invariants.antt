-- `verdict::closed` meets its contract: one rule after the other may be gone through, by the laws of `Table`.
use Prim.Native.Nat.{◌≤◌, ◌-◌}
use mathlib.Core.Path.{◌≡◌}
use lib.ListN.{length}
use Rattle.verdict.proofs.Table.{Closing}
use Rattle.verdict.proofs.closed.Given as goal

abbrev pub invariant-loop-k : goal.invariant-loop-k
invariant-loop-k l = (l.k ≤ l.n) × (length l.rows ≡ length l.initial.rows) × Closing l.initial.rows l.n l.k l.rows

abbrev pub decreases-loop-k : goal.decreases-loop-k
decreases-loop-k l = l.n - l.k
