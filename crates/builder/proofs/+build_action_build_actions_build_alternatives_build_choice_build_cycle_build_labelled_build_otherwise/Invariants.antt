-- The functions that build actions, cycles, choices and alternatives meet their contracts. Measure: five times the bytes left, and a rank.
use mathlib.Core.Bool.{true, false}
use mathlib.Core.List.{List}
use mathlib.Core.Path.{◌≡◌}
use Prim.Native.Nat.{ℕ, ◌+◌, ◌*◌, ◌-◌, ◌≤◌}
use lib.ListN.{length}
use Rattle.builder.specs.Parts.{ActsDone, AltsDone}
use Rattle.resolver.specs.Resolved.{BuiltTold}
use Rattle.builder.proofs.+build_action_build_actions_build_alternatives_build_choice_build_cycle_build_labelled_build_otherwise.Given as goal

abbrev pub decreases-build_action : goal.decreases-build_action
decreases-build_action l = 5 * (length l.text.now - l.at) + 0

abbrev pub decreases-build_actions : goal.decreases-build_actions
decreases-build_actions l = 5 * (length l.text.now - l.at) + 1

abbrev pub decreases-build_alternatives : goal.decreases-build_alternatives
decreases-build_alternatives l = 5 * (length l.text.now - l.spot.at) + 3

abbrev pub decreases-build_choice : goal.decreases-build_choice
decreases-build_choice l = 5 * (length l.text.now - l.at) + 4

abbrev pub decreases-build_cycle : goal.decreases-build_cycle
decreases-build_cycle l = 5 * (length l.text.now - l.at) + 2

abbrev pub decreases-build_labelled : goal.decreases-build_labelled
decreases-build_labelled l = 5 * (length l.text.now - l.spot.at) + 2

abbrev pub decreases-build_otherwise : goal.decreases-build_otherwise
decreases-build_otherwise l = 5 * (length l.text.now - l.at) + 2

abbrev pub invariant-build_actions-loop-scope : goal.invariant-build_actions-loop-scope
invariant-build_actions-loop-scope l =
    (l.at ≤ l.i) × (l.i ≤ length l.text) × (length l.cells ≡ length l.initial.cells)
    × ((cs : List ℕ) (r : BuiltTold) → ActsDone l.text l.rows l.scope.n l.i l.scope.inside l.scope.class l.past l.exits l.cells l.c cs r → ActsDone l.text l.rows l.scope.n l.at l.scope.inside l.scope.class true false l.initial.cells l.count cs r)

abbrev pub decreases-build_actions-loop-scope : goal.decreases-build_actions-loop-scope
decreases-build_actions-loop-scope l = length l.text - l.i

abbrev pub invariant-build_alternatives-loop-choice : goal.invariant-build_alternatives-loop-choice
invariant-build_alternatives-loop-choice l =
    (l.initial.here.at ≤ l.here.at) × (l.here.at ≤ length l.text) × (length l.cells ≡ length l.initial.cells) × (length l.seen ≡ 64) × (l.here.used ≤ 64)
    × ((cs : List ℕ) (r : BuiltTold) → AltsDone l.text l.rows l.scope.n l.here.at l.scope.inside l.scope.class l.choice.labels l.choice.absent l.seen l.here.used l.past l.exits l.cells l.here.count cs r → AltsDone l.text l.rows l.scope.n l.initial.here.at l.scope.inside l.scope.class l.choice.labels l.choice.absent l.initial.seen l.initial.here.used false false l.initial.cells l.initial.here.count cs r)

abbrev pub decreases-build_alternatives-loop-choice : goal.decreases-build_alternatives-loop-choice
decreases-build_alternatives-loop-choice l = length l.text - l.here.at
