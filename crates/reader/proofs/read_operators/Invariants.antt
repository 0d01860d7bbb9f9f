-- `reader::read_operators` meets its contract.
use Prim.Native.Nat.{◌-◌, ◌≤◌}
use lib.ListN.{length}
use Rattle.reader.specs.Answers.{Out, Moves}
use Rattle.syntax.specs.Sections.{some_operators}
use Rattle.reader.proofs.read_operators.Given as goal

abbrev pub invariant-loop-r : goal.invariant-loop-r
invariant-loop-r l = (l.at ≤ l.i) × (l.i ≤ length l.text) × ((o : Out) → Moves l.text l.i l.i (λ k. some_operators k) o → Moves l.text l.at l.at (λ k. some_operators k) o)

abbrev pub decreases-loop-r : goal.decreases-loop-r
decreases-loop-r l = length l.text - l.i
