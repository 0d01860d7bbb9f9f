-- Sets of rules in two words.
use Prim.Native.Nat.{ℕ, zero, suc, ◌+◌, ◌-◌, ◌*◌, ◌/◌, ◌%◌, ◌^◌, ◌<◌, ◌≤◌}
use mathlib.Core.Path.{◌≡◌, refl, sym, ap, ◌∙◌}
use mathlib.Core.Bool.{Bool, true, false, cond, ◌||◌, ◌&&◌, xor, or_comm}
use mathlib.Core.List.{List}
use native.Mathlib.Omega.{arith}
use native.Mathlib.Decide.{dec_lt}
use native.Mathlib.Nat.{zero-div}
use lib.Dec.{eqb, ltb}
use lib.ListN.{length, get_or}
use lib.Bits.{bit_or, or_shr, or_mod, and_mask}
use borrow.Author.Tests.{lt-ltb, le-ltb, eq-eqb, ne_eqb}
use Rattle.base.specs.Bools.{never, same, split}
use Rattle.finishing.specs.Test.{some_below}
use Rattle.finishing.proofs.Exact.{below_true}
use Rattle.verdict.specs.Told.{bit, member}
use Rattle.verdict.specs.declared.Rules.{Rules}

small : (x y : ℕ) → x < 2 → y < 2 → eqb (bit_or x y) 1 ≡ (eqb x 1 || eqb y 1)
small zero zero h l = refl
small zero (suc zero) h l = refl
small zero (suc (suc y)) h l = absurd (omega arith)
small (suc zero) zero h l = refl
small (suc zero) (suc zero) h l = refl
small (suc zero) (suc (suc y)) h l = absurd (omega arith)
small (suc (suc x)) y h l = absurd (omega arith)

bit-mod : (w k : ℕ) → bit w k ≡ eqb (w / 2 ^ k % 2) 1
unfolding bit
bit-mod w k = ap (λ (n : ℕ). eqb n 1) (and_mask (w / 2 ^ k) 1)

pub bit-or : (a b k : ℕ) → bit (bit_or a b) k ≡ (bit a k || bit b k)
bit-or a b k =
    let x = a / 2 ^ k in
    let y = b / 2 ^ k in
    bit-mod (bit_or a b) k
    ∙ (ap (λ (n : ℕ). eqb (n % 2) 1) (or_shr a b k)
    ∙ (ap (λ (n : ℕ). eqb n 1) (or_mod x y 1)
    ∙ (small (x % 2) (y % 2) (omega arith) (omega arith)
    ∙ rw (bit-mod a k, bit-mod b k))))

-- one bit alone, by computation
wrong : ℕ → ℕ → Bool
wrong r k = xor (bit (1 * 2 ^ r % 18446744073709551616) k) (eqb r k)

no-xor : (a b : Bool) → xor a b ≡ false → a ≡ b
unfolding xor
no-xor true true e = refl
no-xor true false e = never (sym e)
no-xor false true e = never (sym e)
no-xor false false e = refl

none-wrong : some_below 64 (λ r. some_below 64 (λ k. wrong r k)) ≡ false
unfolding some_below wrong bit xor
none-wrong = refl

pub bit-one : (r k : ℕ) → r < 64 → k < 64 → bit (1 * 2 ^ r % 18446744073709551616) k ≡ eqb r k
unfolding wrong
bit-one r k l h = no-xor (bit (1 * 2 ^ r % 18446744073709551616) k) (eqb r k)
    (split (wrong r k)
    (λ e. let z = below_true 64 (λ r. some_below 64 (λ k. wrong r k)) r l (below_true 64 (λ k. wrong r k) k h e) in
    let y : ◌≡◌ {A = Bool} false true = sym none-wrong ∙ z in never y)
    (λ e. e))

-- members of a set
pub member_union : (s t : Rules) (k : ℕ) → member (record { lo = bit_or s.lo t.lo; hi = bit_or s.hi t.hi }) k ≡ (member s k || member t k)
unfolding member
member_union s t k = go (ltb k 64) (ltb k 128)
  where
    go : (a b : Bool) → cond a (bit (bit_or s.lo t.lo) k) (cond b (bit (bit_or s.hi t.hi) (k - 64)) false)
        ≡ (cond a (bit s.lo k) (cond b (bit s.hi (k - 64)) false) || cond a (bit t.lo k) (cond b (bit t.hi (k - 64)) false))
    go true b = bit-or s.lo t.lo k
    go false true = bit-or s.hi t.hi (k - 64)
    go false false = refl

pub member-low : (s : Rules) (r k : ℕ) → r < 64 → k < 128 → member (record { lo = bit_or s.lo (1 * 2 ^ r % 18446744073709551616); hi = s.hi }) k ≡ (eqb r k || member s k)
unfolding member
member-low s r k l h = elim (dec_lt k 64) [
  | yes x ↦ rw (lt-ltb k 64 x) (bit-or s.lo (1 * 2 ^ r % 18446744073709551616) k ∙ (ap (λ (b : Bool). bit s.lo k || b) (bit-one r k l x) ∙ or_comm (bit s.lo k) (eqb r k)))
  | no x ↦ rw (ne_eqb r k (λ e. omega arith), le-ltb k 64 (omega arith)) refl
]

pub member-high : (s : Rules) (r k : ℕ) → 64 ≤ r → r < 128 → k < 128 → member (record { lo = s.lo; hi = bit_or s.hi (1 * 2 ^ (r - 64) % 18446744073709551616) }) k ≡ (eqb r k || member s k)
unfolding member
member-high s r k g l h = elim (dec_lt k 64) [
  | yes x ↦ rw (ne_eqb r k (λ e. omega arith), lt-ltb k 64 x) refl
  | no x ↦
      let e : eqb (r - 64) (k - 64) ≡ eqb r k = same (eqb (r - 64) (k - 64)) (eqb r k)
      (λ d. eq-eqb r k (omega (arith, borrow.Author.Tests.eqb-true (r - 64) (k - 64) d)))
      (λ d. eq-eqb (r - 64) (k - 64) (omega (arith, borrow.Author.Tests.eqb-true r k d))) in
      rw (le-ltb k 64 (omega arith), lt-ltb k 128 h) (bit-or s.hi (1 * 2 ^ (r - 64) % 18446744073709551616) (k - 64)
      ∙ (ap (λ (b : Bool). bit s.hi (k - 64) || b) (bit-one (r - 64) (k - 64) (omega arith) (omega arith) ∙ e) ∙ or_comm (bit s.hi (k - 64)) (eqb r k)))
]

pub bit-zero : (k : ℕ) → bit 0 k ≡ false
bit-zero k = bit-mod 0 k ∙ ap (λ (n : ℕ). eqb (n % 2) 1) (zero-div (2 ^ k))

pub member-none : (k : ℕ) → member (record { lo = 0; hi = 0 }) k ≡ false
unfolding member
member-none k = go (ltb k 64) (ltb k 128)
  where
    go : (a b : Bool) → cond a (bit 0 k) (cond b (bit 0 (k - 64)) false) ≡ false
    go true b = bit-zero k
    go false true = bit-zero (k - 64)
    go false false = refl

-- Those of a row that are v, a bit for each, up to place j
pub record Matching (vs : List ℕ) (v j : ℕ) (s : Rules) : Type 0 where
  pub done : (i : ℕ) → i < j → i < 128 → member s i ≡ eqb v (get_or vs i 0)
  pub left : (i : ℕ) → j ≤ i → i < 128 → member s i ≡ false

-- none of them is v
pub matching-none : (vs : List ℕ) (v : ℕ) → ((j : ℕ) → j < length vs → eqb v (get_or vs j 0) ≡ false) → (j : ℕ) → j < length vs → j < 128 → member (record { lo = 0; hi = 0 }) j ≡ eqb v (get_or vs j 0)
matching-none vs v h j l b = member-none j ∙ sym (h j l)

pub matching-start : (vs : List ℕ) (v : ℕ) → Matching vs v 0 (record { lo = 0; hi = 0 })
matching-start vs v = record { done = λ i h b. absurd (omega arith); left = λ i h b. member-none i }

pub matching-next : (vs : List ℕ) (v j x : ℕ) (s t : Rules) → x ≡ get_or vs j 0 → ((k : ℕ) → k < 128 → member t k ≡ ((eqb v x && eqb j k) || member s k)) → Matching vs v j s → Matching vs v (j + 1) t
matching-next vs v j x s t e h m = record {
  done = λ i l b. elim (dec_lt i j) [
    | yes y ↦ h i b ∙ (rw (ne_eqb j i (λ z. omega arith), m.done i y b) (other (eqb v x) (eqb v (get_or vs i 0))))
    | no y ↦
        let q : j ≡ i = omega arith in
        h i b ∙ (rw (eq-eqb j i q, m.left i (omega arith) b) (this (eqb v x) ∙ ap (λ (z : ℕ). eqb v z) (e ∙ ap (λ (z : ℕ). get_or vs z 0) q)))
  ];
  left = λ i l b. h i b ∙ rw (ne_eqb j i (λ z. omega arith), m.left i (omega arith) b) (other (eqb v x) false);
}
  where
    other : (a b : Bool) → ((a && false) || b) ≡ b
    other true b = refl
    other false b = refl

    this : (a : Bool) → ((a && true) || false) ≡ a
    this true = refl
    this false = refl
