-- `levels::make` meets its contract.
use mathlib.Core.List.{List}
use mathlib.Core.Path.{◌≡◌}
use Prim.Native.Nat.{ℕ, ◌+◌, ◌-◌, ◌≤◌}
use lib.ListN.{length}
use Rattle.levels.specs.Making.{MakeFrom}
use Rattle.levels.specs.declared.Made.{Made}
use Rattle.levels.proofs.make.Given as goal

abbrev pub invariant-loop-j : goal.invariant-loop-j
invariant-loop-j l =
    (l.made.count ≤ length l.cells + 1) × (length l.cells ≡ length l.initial.cells) × (length l.starts ≡ 128) × (length l.sorts ≡ 128)
    × ((cs' starts' sorts' : List ℕ) (r : Made) → MakeFrom l.text l.rows l.n l.j (l.j-end - l.j) l.made.rules l.cells l.made.count l.starts l.sorts cs' starts' sorts' r → MakeFrom l.text l.rows l.n 0 l.j-end l.initial.made.rules l.initial.cells l.initial.made.count l.initial.starts l.initial.sorts cs' starts' sorts' r)
