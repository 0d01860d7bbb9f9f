-- `builder::build` meets its contract.
use mathlib.Core.Path.{◌≡◌}
use mathlib.Core.List.{List}
use Prim.Native.Nat.{ℕ, ◌-◌, ◌≤◌, ◌<◌}
use lib.ListN.{length}
use Rattle.builder.specs.Row.{RowDone}
use Rattle.builder.specs.Rules.{RulesTold}
use Rattle.builder.proofs.build.Given as goal

abbrev pub invariant-loop-r : goal.invariant-loop-r
invariant-loop-r l =
    (l.k < 128) × (l.i ≤ length l.text) × (length l.cells ≡ length l.initial.cells) × (length l.starts ≡ 128) × (length l.sorts ≡ 128)
    × ((cs a b : List ℕ) (r : RulesTold) → RowDone l.text l.rows l.listed.n l.listed.first l.k l.i l.cells l.c cs l.starts l.sorts a b r → RowDone l.text l.rows l.listed.n l.listed.first 0 l.at l.initial.cells 0 cs l.initial.starts l.initial.sorts a b r)

abbrev pub decreases-loop-r : goal.decreases-loop-r
decreases-loop-r l = 128 - l.k
