-- `verdict::arrows` meets its contract: row by row, by the laws of `Table`.
use Prim.Native.Nat.{◌≤◌, ◌-◌}
use mathlib.Core.Path.{◌≡◌}
use lib.ListN.{length}
use Rattle.verdict.specs.Told.{known_in}
use Rattle.verdict.proofs.Table.{Filling}
use Rattle.verdict.proofs.arrows.Given as goal

abbrev pub invariant-loop-r : goal.invariant-loop-r
invariant-loop-r l = (l.r ≤ l.n) × (length l.rows ≡ length l.initial.rows) × Filling l.cells l.starts l.n (known_in l.k.passed l.facts l.k.count) l.r l.looping l.rows

abbrev pub decreases-loop-r : goal.decreases-loop-r
decreases-loop-r l = l.n - l.r
