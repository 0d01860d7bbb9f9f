-- `partpairs::take_words` meets its contract.
use mathlib.Core.List.{List}
use mathlib.Core.Path.{◌≡◌}
use Prim.Native.Nat.{ℕ, ◌-◌, ◌≤◌}
use lib.ListN.{length, get_or}
use Rattle.partpairs.specs.Pairing.{PairsFrom}
use Rattle.symbols.specs.Index.{Kept}
use Rattle.partpairs.proofs.take_words.Given as goal

abbrev pub invariant-loop-w : goal.invariant-loop-w
invariant-loop-w l = (l.i ≤ length l.text) × (length l.rows ≡ 30209) × (length l.signs ≡ 8192) × Kept l.text l.rows l.n × (get_or l.rows 5632 0 ≤ 8192) × ((rows' signs' : List ℕ) → PairsFrom l.text l.rows l.signs l.n l.own l.i rows' signs' → PairsFrom l.text l.initial.rows l.initial.signs l.n l.own l.at rows' signs')

abbrev pub decreases-loop-w : goal.decreases-loop-w
decreases-loop-w l = length l.text - l.i
