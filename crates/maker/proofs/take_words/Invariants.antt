-- `maker::take_words` meets its contract.
use mathlib.Core.List.{List}
use mathlib.Core.Path.{◌≡◌}
use Prim.Native.Nat.{ℕ, ◌-◌, ◌≤◌}
use lib.ListN.{length, get_or}
use Rattle.std.specs.Prelude.{Result}
use Rattle.base.specs.declared.Refusal.{Refusal}
use Rattle.maker.specs.Pairing.{PairsFrom}
use Rattle.symbols.specs.Index.{Kept}
use Rattle.maker.proofs.take_words.Given as goal

abbrev pub invariant-loop-w : goal.invariant-loop-w
invariant-loop-w l = (l.i ≤ length l.text) × (length l.rows ≡ 6017) × Kept l.text l.rows l.n × (l.k ≤ 128) × (get_or l.rows 5632 0 ≤ l.k) × ((rows' : List ℕ) (r : Result (Unit {0}) Refusal) → PairsFrom l.text l.rows l.n l.others l.k l.i rows' r → PairsFrom l.text l.initial.rows l.n l.others l.own l.at rows' r)

abbrev pub decreases-loop-w : goal.decreases-loop-w
decreases-loop-w l = length l.text - l.i
