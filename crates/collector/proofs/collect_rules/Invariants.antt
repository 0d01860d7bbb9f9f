-- `collector::collect_rules` meets its contract.
use mathlib.Core.Path.{◌≡◌}
use mathlib.Core.List.{List}
use Prim.Native.Nat.{ℕ, ◌-◌, ◌≤◌}
use lib.ListN.{length}
use Rattle.collector.specs.Collecting.{SomeRules}
use Rattle.collector.proofs.collect_rules.Given as goal

abbrev pub invariant-loop-i : goal.invariant-loop-i
invariant-loop-i l = (l.at ≤ l.i) × (l.i ≤ length l.text) × (l.n ≤ 512) × (length l.rows ≡ length l.initial.rows) × (l.count ≤ l.n) × ((rows' : List ℕ) (r : ℕ) → SomeRules l.text l.rows rows' l.i l.n (l.n - l.count) r → SomeRules l.text l.initial.rows rows' l.at l.count 0 r)

abbrev pub decreases-loop-i : goal.decreases-loop-i
decreases-loop-i l = length l.text - l.i
