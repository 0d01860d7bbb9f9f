-- `reader::read_sections` meets its contract.
use mathlib.Core.Path.{◌≡◌}
use Prim.Native.Nat.{ℕ, ◌-◌, ◌≤◌}
use lib.ListN.{length}
use Rattle.reader.specs.Answers.{Out}
use Rattle.reader.specs.Counting.{Sections_read}
use Rattle.reader.proofs.read_sections.Given as goal

abbrev pub invariant-loop-sofar : goal.invariant-loop-sofar
invariant-loop-sofar l = (l.at ≤ l.i) × (l.i ≤ length l.text) × ((o : Out) (n : ℕ) → Sections_read (λ x. x.left ≡ n) l.text l.i l.sofar o → Sections_read (λ x. x.left ≡ n) l.text l.at l.initial.sofar o)

abbrev pub decreases-loop-sofar : goal.decreases-loop-sofar
decreases-loop-sofar l = length l.text - l.i
