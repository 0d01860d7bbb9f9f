-- `partrules::open_rules` meets its contract.
use mathlib.Core.List.{List}
use mathlib.Core.Path.{◌≡◌}
use Prim.Native.Nat.{ℕ, ◌-◌, ◌<◌, ◌≤◌}
use lib.ListN.{length}
use Rattle.partrules.specs.Opened.{RulesDone}
use Rattle.partrules.specs.declared.Rules.{Rules}
use Rattle.partrules.proofs.open_rules.Given as goal

abbrev pub invariant-loop-d : goal.invariant-loop-d
invariant-loop-d l =
    (l.k < 128) × (l.here.at ≤ length l.text) × (length l.seen ≡ length l.initial.seen) × (length l.cells ≡ length l.initial.cells) × (length l.object ≡ length l.initial.object)
    × ((o : List ℕ) (a : Rules) → RulesDone l.text l.rows l.part.n l.part.first l.part.moved l.k l.here.at (length l.cells) l.seen l.object l.here.count o a
    → RulesDone l.text l.rows l.part.n l.part.first l.part.moved 0 l.initial.here.at (length l.initial.cells) l.initial.seen l.initial.object l.initial.here.count o a)

abbrev pub decreases-loop-d : goal.decreases-loop-d
decreases-loop-d l = 128 - l.k
