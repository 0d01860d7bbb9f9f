-- `declarer::entries_fault` meets its contract.
use mathlib.Core.List.{List}
use mathlib.Core.Path.{◌≡◌}
use Prim.Native.Nat.{◌-◌, ◌≤◌}
use lib.ListN.{length, take}
use Rattle.declarer.specs.Operators.{Passed, AllMarked}
use Rattle.grammar.specs.Derived.{OperatorsIn}
use Rattle.symbols.specs.Rows.{held}
use Rattle.syntax.specs.Written.{Operator}
use Rattle.words.specs.Words.{Word, words_at}
use Rattle.declarer.proofs.entries_fault.Given as goal

abbrev pub invariant-loop-next : goal.invariant-loop-next
invariant-loop-next l =
    (l.count ≤ l.i) × (l.i ≤ length l.text) × ((es : List Operator) (ws' : List Word) → OperatorsIn (words_at l.text l.at) ws' es → Passed (held l.text l.rows l.n) l.text l.i l.count ws' es)
    × ((es : List Operator) (ws' : List Word) → OperatorsIn (words_at l.text l.at) ws' es → AllMarked (held l.text l.rows l.n) l.rows l.n l.marks (take l.count es)) × (length l.marks ≡ 544)

abbrev pub decreases-loop-next : goal.decreases-loop-next
decreases-loop-next l = length l.text - l.i
