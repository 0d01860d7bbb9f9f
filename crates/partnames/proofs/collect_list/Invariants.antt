-- `partnames::collect_list` meets its contract.
use mathlib.Core.Path.{◌≡◌}
use mathlib.Core.List.{List}
use Prim.Native.Nat.{ℕ, ◌-◌, ◌≤◌}
use lib.ListN.{length}
use Rattle.collector.specs.declared.Spot.{Spot}
use Rattle.partnames.specs.Declaring.{SomeLines}
use Rattle.partnames.proofs.collect_list.Given as goal

abbrev pub invariant-loop-at : goal.invariant-loop-at
invariant-loop-at l = (l.at ≤ l.i) × (l.i ≤ length l.text) × (l.n ≤ 512) × (length l.rows ≡ length l.initial.rows) × (l.count ≤ l.n) × ((rows' : List ℕ) (r : Spot) → SomeLines l.text l.rows rows' l.i l.n (l.n - l.count) r → SomeLines l.text l.initial.rows rows' l.at l.count 0 r)

abbrev pub decreases-loop-at : goal.decreases-loop-at
decreases-loop-at l = length l.text - l.i
