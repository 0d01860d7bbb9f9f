-- `reader::read_heads` meets its contract.
use Prim.Native.Nat.{◌-◌, ◌≤◌}
use lib.ListN.{length}
use Rattle.reader.specs.Answers.{Out, Reads}
use Rattle.syntax.specs.Texts.{some_heads}
use Rattle.reader.proofs.read_heads.Given as goal

abbrev pub invariant-loop-at : goal.invariant-loop-at
invariant-loop-at l = (l.at ≤ l.i) × (l.i ≤ length l.text) × ((o : Out) → Reads l.text l.i l.i (λ k. some_heads k l.names) o → Reads l.text l.at l.at (λ k. some_heads k l.left) o)

abbrev pub decreases-loop-at : goal.decreases-loop-at
decreases-loop-at l = length l.text - l.i
