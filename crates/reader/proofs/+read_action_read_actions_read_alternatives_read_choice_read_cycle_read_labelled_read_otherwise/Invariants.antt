-- The readers of actions, cycles, choices and alternatives meet their contracts. Measure: five times the nesting left, and a rank.
use Prim.Native.Nat.{◌+◌, ◌*◌, ◌-◌, ◌≤◌}
use lib.ListN.{length}
use Rattle.reader.specs.Answers.{Out, Reads}
use Rattle.syntax.specs.Actions.{actions, alternatives}
use Rattle.reader.proofs.+read_action_read_actions_read_alternatives_read_choice_read_cycle_read_labelled_read_otherwise.Given as goal

abbrev pub decreases-read_action : goal.decreases-read_action
decreases-read_action l = 5 * l.left + 0

abbrev pub decreases-read_actions : goal.decreases-read_actions
decreases-read_actions l = 5 * l.left + 1

abbrev pub decreases-read_alternatives : goal.decreases-read_alternatives
decreases-read_alternatives l = 5 * l.left + 3

abbrev pub decreases-read_choice : goal.decreases-read_choice
decreases-read_choice l = 5 * l.left + 4

abbrev pub decreases-read_cycle : goal.decreases-read_cycle
decreases-read_cycle l = 5 * l.left + 3

abbrev pub decreases-read_labelled : goal.decreases-read_labelled
decreases-read_labelled l = 5 * l.left + 2

abbrev pub decreases-read_otherwise : goal.decreases-read_otherwise
decreases-read_otherwise l = 5 * l.left + 2

abbrev pub invariant-read_actions-loop-w : goal.invariant-read_actions-loop-w
invariant-read_actions-loop-w l = (l.at ≤ l.i) × (l.i ≤ length l.text) × ((r : Out) → Reads l.text l.i l.i (λ k. actions k l.left) r → Reads l.text l.at l.at (λ k. actions k l.left) r)

abbrev pub decreases-read_actions-loop-w : goal.decreases-read_actions-loop-w
decreases-read_actions-loop-w l = length l.text - l.i

abbrev pub invariant-read_alternatives-loop-w : goal.invariant-read_alternatives-loop-w
invariant-read_alternatives-loop-w l = (l.at ≤ l.i) × (l.i ≤ length l.text) × ((r : Out) → Reads l.text l.i l.i (λ k. alternatives k l.left l.free) r → Reads l.text l.at l.at (λ k. alternatives k l.left l.room) r)

abbrev pub decreases-read_alternatives-loop-w : goal.decreases-read_alternatives-loop-w
decreases-read_alternatives-loop-w l = length l.text - l.i
