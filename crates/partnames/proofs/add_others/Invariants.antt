-- `partnames::add_others` meets its contract.
use mathlib.Core.Bool.{true}
use mathlib.Core.List.{List}
use mathlib.Core.Path.{◌≡◌}
use Prim.Native.Nat.{ℕ, ◌-◌, ◌≤◌}
use lib.ListN.{length}
use Rattle.partnames.specs.Mentioning.{AddsFrom}
use Rattle.base.specs.declared.Refusal.{Refusal}
use Rattle.std.specs.Prelude.{Result}
use Rattle.partnames.proofs.add_others.Given as goal

abbrev pub invariant-loop-w : goal.invariant-loop-w
invariant-loop-w l = (l.i ≤ length l.text) × (l.first ≤ l.count) × (l.count ≤ 512) × (length l.rows ≡ length l.initial.rows) × ((rows' : List ℕ) (r : Result ℕ Refusal) → AddsFrom l.text l.rows rows' l.first l.count l.i l.led r → AddsFrom l.text l.initial.rows rows' l.first l.n l.at true r)

abbrev pub decreases-loop-w : goal.decreases-loop-w
decreases-loop-w l = length l.text - l.i
