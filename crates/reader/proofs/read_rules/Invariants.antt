-- `reader::read_rules` meets its contract.
use Prim.Native.Nat.{◌-◌, ◌≤◌}
use lib.ListN.{length}
use Rattle.reader.specs.Answers.{Out, Reads}
use Rattle.syntax.specs.Parse.{some_rules}
use Rattle.reader.proofs.read_rules.Given as goal

abbrev pub invariant-loop-r : goal.invariant-loop-r
invariant-loop-r l = (l.at ≤ l.i) × (l.i ≤ length l.text) × ((o : Out) → Reads l.text l.i l.i (λ k. some_rules k l.names) o → Reads l.text l.at l.at (λ k. some_rules k l.left) o)

abbrev pub decreases-loop-r : goal.decreases-loop-r
decreases-loop-r l = length l.text - l.i
