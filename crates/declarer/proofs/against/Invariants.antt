-- `declarer::against` meets its contract.
use mathlib.Core.List.{List}
use mathlib.Core.Path.{◌≡◌}
use Prim.Native.Nat.{ℕ, ◌-◌, ◌<◌, ◌≤◌}
use lib.ListN.{length}
use Rattle.declarations.specs.Decls.{knowns_in}
use Rattle.declarer.specs.Operators.{Left}
use Rattle.grammar.specs.Derived.{OperatorsIn}
use Rattle.maker.specs.Ranks.{EntryIs}
use Rattle.names.specs.Known.{find}
use Rattle.symbols.specs.Rows.{answer_of, held}
use Rattle.symbols.specs.Search.{part}
use Rattle.syntax.specs.Written.{Operator}
use Rattle.words.specs.Words.{Word, words_at}
use Rattle.declarer.proofs.against.Given as goal

abbrev pub invariant-loop : goal.invariant-loop
invariant-loop l =
    (l.i ≤ length l.text) × (l.v ≡ answer_of (find (part l.text l.e.token.start l.e.token.len) (knowns_in 1 (held l.text l.rows l.n))))
    × ((es : List Operator) (ws' : List Word) → OperatorsIn (words_at l.text l.at) ws' es → l.count < length es → (from : ℕ) (o : Operator) (ws₁ : List Word) → EntryIs l.text from o ws₁ l.e
    → Left (held l.text l.rows l.n) (find o.token.text (knowns_in 1 (held l.text l.rows l.n))) o l.text l.i (l.count - l.counter) l.count ws' es)
