-- `verdict::collected` meets its contract: one label more each time.
use Prim.Native.Nat.{◌≤◌, ◌-◌, ◌+◌}
use mathlib.Core.Path.{◌≡◌}
use mathlib.Core.List.{◌++◌}
use lib.ListN.{length, take, drop}
use Rattle.verdict.proofs.collected.Given as goal

abbrev pub invariant-loop-i : goal.invariant-loop-i
invariant-loop-i l =
    (l.from ≤ l.i) × (l.i ≤ l.to) × (l.k ≡ l.n + (l.i - l.from)) × (l.k ≤ length l.labels) × (length l.labels ≡ length l.initial.labels) × (take l.k l.labels ≡ take l.n l.initial.labels ++ take (l.i - l.from) (drop l.from l.cells))

abbrev pub decreases-loop-i : goal.decreases-loop-i
decreases-loop-i l = l.to - l.i
