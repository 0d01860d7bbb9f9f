-- The rule of the lengths, proved once over the whole table.
use mathlib.Core.Path.{◌≡◌, ◌∙◌}
use mathlib.Core.Bool.{Bool}
use Prim.Native.Nat.{ℕ, zero, suc, ◌-◌, ◌<◌, ◌≤◌}
use native.Mathlib.Omega.{arith}
use lib.Dec.{T, eqb, eqb→eq}
use lib.ListN.{get_or}
use borrow.Author.Tests.{le-leb, lt-leb}
use Rattle.machine.specs.Lengths.{length_rule, lengths, length_of}
use Rattle.machine.proofs.Table.{every, at}

-- the entry at k is the length that the rule gives instruction k + 1
right : ℕ → ℕ → Bool
right k x = eqb x (length_rule (suc k))

all_right : T (every right 0 lengths)
unfolding right lengths length_rule
all_right = tt

-- an instruction 1 to 13: its entry
pub length-entry : (i : ℕ) → 1 ≤ i → i ≤ 13 → length_of i ≡ get_or lengths (i - 1) 0
unfolding length_of
length-entry i l u = simp (le-leb 1 i l, le-leb i 13 u)

-- "two words, or one for 4, 9, 12"
pub length-rule : (i : ℕ) → 1 ≤ i → i ≤ 13 → length_of i ≡ length_rule i
unfolding right lengths
length-rule zero l u = absurd (omega arith)
length-rule (suc k) l u =
    let e : suc k - 1 ≡ k = omega arith in
    let at-k : T (right k (get_or lengths k 0)) = at right lengths all_right k (omega arith) in
    length-entry (suc k) l u ∙ rw e (eqb→eq (get_or lengths k 0) (length_rule (suc k)) at-k)

-- "and the operations"
pub length-operation : (i : ℕ) → 256 ≤ i → i ≤ 1279 → length_of i ≡ 1
unfolding length_of
length-operation i l u = simp (le-leb 1 i (omega arith), lt-leb i 13 (omega arith), le-leb 256 i l, le-leb i 1279 u)

-- "an instruction 0, 14 to 255 or above 1,279"
pub length_none : (i : ℕ) → i < 1 → length_of i ≡ 0
unfolding length_of
length_none i h = simp (lt-leb 1 i h, lt-leb 256 i (omega arith))

pub length-between : (i : ℕ) → 14 ≤ i → i ≤ 255 → length_of i ≡ 0
unfolding length_of
length-between i l u = simp (le-leb 1 i (omega arith), lt-leb i 13 (omega arith), lt-leb 256 i (omega arith))

pub length_above : (i : ℕ) → 1280 ≤ i → length_of i ≡ 0
unfolding length_of
length_above i l = simp (le-leb 1 i (omega arith), lt-leb i 13 (omega arith), le-leb 256 i (omega arith), lt-leb i 1279 (omega arith))
