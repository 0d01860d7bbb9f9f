-- `reader::read_labels` meets its contract.
use Prim.Native.Nat.{ℕ, ◌+◌, ◌-◌, ◌≤◌}
use lib.ListN.{length}
use Rattle.reader.specs.Answers.{Out, Yields}
use Rattle.reader.specs.Parts.{Leaves}
use Rattle.syntax.specs.Actions.{some_labels}
use Rattle.reader.proofs.read_labels.Given as goal

abbrev pub invariant-loop-r : goal.invariant-loop-r
invariant-loop-r l = (l.at ≤ l.i) × (l.i ≤ length l.text) × ((o : Out) (n : ℕ) → Yields (Leaves l.left n) l.text l.i (l.i + 1) (λ k. some_labels k l.left) o → Yields (Leaves l.room n) l.text l.at (l.at + 1) (λ k. some_labels k l.room) o)

abbrev pub decreases-loop-r : goal.decreases-loop-r
decreases-loop-r l = length l.text - l.i
