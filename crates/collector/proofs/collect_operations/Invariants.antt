-- `collector::collect_operations` meets its contract.
use mathlib.Core.Path.{◌≡◌}
use mathlib.Core.List.{List}
use Prim.Native.Nat.{ℕ, ◌-◌, ◌≤◌}
use lib.ListN.{length}
use Rattle.collector.specs.Collecting.{SomeOperations}
use Rattle.collector.specs.declared.Operated.{Operated}
use Rattle.collector.proofs.collect_operations.Given as goal

abbrev pub invariant-loop-o : goal.invariant-loop-o
invariant-loop-o l = (l.at ≤ l.i) × (l.i ≤ length l.text) × (l.n ≤ 512) × (length l.rows ≡ length l.initial.rows) × ((rows' : List ℕ) (r : Operated) → SomeOperations l.text l.rows rows' l.i l.n l.counts r → SomeOperations l.text l.initial.rows rows' l.at l.count l.initial.counts r)

abbrev pub decreases-loop-o : goal.decreases-loop-o
decreases-loop-o l = length l.text - l.i
