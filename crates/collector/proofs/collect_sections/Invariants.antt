-- `collector::collect_sections` meets its contract.
use mathlib.Core.Path.{◌≡◌}
use mathlib.Core.List.{List}
use Prim.Native.Nat.{ℕ, ◌-◌, ◌≤◌}
use lib.ListN.{length}
use Rattle.collector.specs.Collecting.{SomeSections}
use Rattle.collector.specs.declared.Spot.{Spot}
use Rattle.collector.proofs.collect_sections.Given as goal

abbrev pub invariant-loop-sofar : goal.invariant-loop-sofar
invariant-loop-sofar l = (l.at ≤ l.i) × (l.i ≤ length l.text) × (l.n ≤ 512) × (length l.rows ≡ length l.initial.rows) × ((rows' : List ℕ) (r : Spot) → SomeSections l.text l.rows rows' l.i l.n l.sofar r → SomeSections l.text l.initial.rows rows' l.at l.count l.initial.sofar r)

abbrev pub decreases-loop-sofar : goal.decreases-loop-sofar
decreases-loop-sofar l = length l.text - l.i
