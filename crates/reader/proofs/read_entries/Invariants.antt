-- `reader::read_entries` meets its contract.
use Prim.Native.Nat.{ℕ, ◌-◌, ◌≤◌}
use lib.ListN.{length}
use Rattle.reader.specs.Answers.{Out, Yields}
use Rattle.reader.specs.Counting.{Entered}
use Rattle.syntax.specs.Sections.{entries}
use Rattle.reader.proofs.read_entries.Given as goal

abbrev pub invariant-loop-e : goal.invariant-loop-e
invariant-loop-e l = (l.at ≤ l.i) × (l.i ≤ length l.text) × ((o : Out) (n t : ℕ) → Yields (Entered l.names l.top n t) l.text l.i l.i (λ k. entries k l.names l.strings l.next) o → Yields (Entered l.left 0 n t) l.text l.at l.at (λ k. entries k l.left l.strings l.v) o)

abbrev pub decreases-loop-e : goal.decreases-loop-e
decreases-loop-e l = length l.text - l.i
