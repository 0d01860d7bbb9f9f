-- `linkpairs::take_pairs` meets its contract: what is gathered of the pairs left is gathered of all.
use mathlib.Core.List.{List}
use mathlib.Core.Path.{◌≡◌}
use Prim.Native.Nat.{ℕ, ◌≤◌}
use lib.ListN.{length}
use Rattle.linkpairs.specs.Standing.{PairsTaken}
use Rattle.linkpairs.specs.declared.Spot.{Spot}
use Rattle.machine.specs.Bytes.{words_of}
use Rattle.linkpairs.proofs.take_pairs.Given as goal

abbrev pub invariant-loop-t : goal.invariant-loop-t
invariant-loop-t l = (l.t.at ≤ length (words_of l.objects)) × (length l.sites ≡ 128) × (length l.lowest ≡ 128) × (l.t.count ≤ l.t.own) × (l.t.own ≤ 128) × (l.t.fault ≡ 0)
    × ((sites' lowest' : List ℕ) (r : Spot) → PairsTaken l.text l.rows l.scope (words_of l.objects) l.sites l.lowest l.t sites' lowest' r → PairsTaken l.text l.rows l.scope (words_of l.objects) l.initial.sites l.initial.lowest l.initial.t sites' lowest' r)

abbrev pub decreases-loop-t : goal.decreases-loop-t
decreases-loop-t l = l.t.left
