-- `reader::read_operations` meets its contract.
use Prim.Native.Nat.{ℕ, ◌-◌, ◌≤◌}
use lib.ListN.{length}
use Rattle.reader.specs.Answers.{Out}
use Rattle.reader.specs.Counting.{Operated, Operates}
use Rattle.reader.specs.declared.Seen.{Seen}
use Rattle.reader.proofs.read_operations.Given as goal

abbrev pub invariant-loop-a : goal.invariant-loop-a
invariant-loop-a l = (l.at ≤ l.i) × (l.i ≤ length l.text) × ((o : Out) (n : ℕ) (t : Seen) → Operates (Operated l.names n l.counts t) l.text l.i l.names l.counts o → Operates (Operated l.left n l.initial.counts t) l.text l.at l.left l.initial.counts o)

abbrev pub decreases-loop-a : goal.decreases-loop-a
decreases-loop-a l = length l.text - l.i
