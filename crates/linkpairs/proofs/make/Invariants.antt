-- `linkpairs::make` meets its contract: what is made for the pairs left is made behind those passed.
use mathlib.Core.List.{List}
use mathlib.Core.Path.{◌≡◌}
use Prim.Native.Nat.{ℕ, ◌+◌, ◌-◌, ◌<◌, ◌≤◌}
use lib.ListN.{length}
use Rattle.levels.specs.declared.Made.{Made}
use Rattle.linkpairs.specs.Places.{RulesMade}
use Rattle.linkpairs.proofs.make.Given as goal

abbrev pub invariant-loop-j : goal.invariant-loop-j
invariant-loop-j l = (l.made.rules < 65536) × (l.made.count ≤ length l.cells + 1) × (length l.cells ≡ length l.initial.cells) × (length l.starts ≡ 128) × (length l.sorts ≡ 128)
    × ((cs' starts' sorts' : List ℕ) (r : Made) → RulesMade l.text l.rows l.work.n l.places l.j (l.work.count - l.j) l.made.rules l.cells l.made.count l.starts l.sorts cs' starts' sorts' r
    → RulesMade l.text l.rows l.work.n l.places 0 l.work.count l.initial.made.rules l.initial.cells l.initial.made.count l.initial.starts l.initial.sorts cs' starts' sorts' r)
