-- Laws of the store of the numbers.
use mathlib.Core.Bool.{Bool, true, false, ◌||◌, ◌&&◌, or-false}
use mathlib.Core.List.{List, [], ◌∷◌}
use mathlib.Core.Path.{◌≡◌, refl, sym, ap, ◌∙◌}
use native.Mathlib.Nat.{zero-add, mod-eq_of_lt}
use native.Mathlib.Decide.{dec_lt}
use native.Mathlib.Omega.{arith}
use Prim.Native.Nat.{ℕ, zero, suc, ◌+◌, ◌-◌, ◌*◌, ◌/◌, ◌%◌, ◌^◌, ◌≤◌, ◌<◌}
use lib.Bits.{bit_or}
use lib.Dec.{eqb}
use lib.ListN.{length, get_or, set, replicate, length-set, length-replicate, get_or-replicate, get_or-eq_default}
use lib.Pow.{pow-lt}
use lib.Seq.{ext_get_or, get_or-set_same, get_or-set_other}
use borrow.Author.Tests.{eq-eqb, ne_eqb, eqb-true, eqb-false}
use Rattle.base.specs.Bools.{split, and, or₂}
use Rattle.verdict.specs.Told.{bit}
use Rattle.verdict.proofs.Sets.{bit-or, bit-one, bit-zero}
use Rattle.meter.specs.Makes.{half, cap}
use Rattle.meter.specs.Steps.{flag_of, called_of, ZeroIn, NoneCalled}
use Rattle.meter.specs.Store.{at_cap, number_in, numbers_from, numbers_of, called_numbers}

-- The numbers one by one

module _ (ws : List ℕ) where
  length_from : (i n : ℕ) → length (numbers_from ws i n) ≡ n
  unfolding numbers_from
  length_from i zero = refl
  length_from i (suc n) = ap suc (length_from (i + 1) n)

  get_d-from : (i n k : ℕ) → k < n → get_or (numbers_from ws i n) k 0 ≡ number_in ws (i + k)
  unfolding numbers_from
  get_d-from i zero k h = absurd (omega arith)
  get_d-from i (suc n) zero h = let e : i ≡ i + 0 = omega arith in ap (λ (j : ℕ). number_in ws j) e
  get_d-from i (suc n) (suc k) h = let e : i + 1 + k ≡ i + suc k = omega arith in get_d-from (i + 1) n k (omega arith) ∙ ap (λ (j : ℕ). number_in ws j) e

  pub length-numbers : length (numbers_of ws) ≡ 4353
  unfolding numbers_of
  length-numbers = length_from 0 4353

  number_is : (i : ℕ) → i < 4353 → get_or (numbers_of ws) i 0 ≡ number_in ws i
  unfolding numbers_of
  number_is i h = get_d-from 0 4353 i h ∙ ap (λ (j : ℕ). number_in ws j) (zero-add i)

  pub number_past : (i : ℕ) → 4353 ≤ i → get_or (numbers_of ws) i 0 ≡ 0
  number_past i h = get_or-eq_default (numbers_of ws) 0 {n = i} (omega (arith, length-numbers))

  in_cap : (i : ℕ) → at_cap ws i ≡ true → number_in ws i ≡ cap
  unfolding number_in
  in_cap i e = rw e refl

  in-word : (i : ℕ) → at_cap ws i ≡ false → number_in ws i ≡ get_or ws i 0
  unfolding number_in
  in-word i e = rw e refl

  pub number-cap : (i : ℕ) → i < 4353 → at_cap ws i ≡ true → get_or (numbers_of ws) i 0 ≡ cap
  number-cap i h e = number_is i h ∙ in_cap i e

  pub number_word : (i : ℕ) → i < 4353 → at_cap ws i ≡ false → get_or (numbers_of ws) i 0 ≡ get_or ws i 0
  number_word i h e = number_is i h ∙ in-word i e

-- the bits and the words decide
same_number : (ws after : List ℕ) (i : ℕ) → at_cap after i ≡ at_cap ws i → get_or after i 0 ≡ get_or ws i 0 → number_in after i ≡ number_in ws i
unfolding number_in
same_number ws after i b w = rw (b, w) refl

-- A number that is put

one-changed : (ws after : List ℕ) (i v : ℕ) → i < 4353 → number_in after i ≡ v → ((j : ℕ) → j < 4353 → (j ≡ i → ⊥) → number_in after j ≡ number_in ws j) → numbers_of after ≡ set (numbers_of ws) i v
one-changed ws after i v h e f =
    ext_get_or 0 (numbers_of after) (set (numbers_of ws) i v) (length-numbers after ∙ sym (length-set (numbers_of ws) i v ∙ length-numbers ws)) (λ j l. one j (omega (arith, length-numbers after)))
  where
    one : (j : ℕ) → j < 4353 → get_or (numbers_of after) j 0 ≡ get_or (set (numbers_of ws) i v) j 0
    one j l = number_is after j l ∙ split (eqb j i)
        (λ t. let q = eqb-true j i t in rw q (e ∙ sym (get_or-set_same (numbers_of ws) i v 0 (omega (arith, length-numbers ws)))))
        (λ t. let q = eqb-false j i t in f j l q ∙ sym (get_or-set_other (numbers_of ws) i j v 0 q ∙ number_is ws j l))

module _ (ws : List ℕ) (i v : ℕ) (sized : length ws ≡ 4490) (inside : i < 4353) where
  not-cap : get_or (numbers_of ws) i 0 < v → v ≤ cap → at_cap ws i ≡ false
  not-cap h l = split (at_cap ws i) (λ t. absurd (omega (arith, number-cap ws i inside t))) (λ f. f)

  -- below the cap: in its word
  pub put_word : get_or (numbers_of ws) i 0 < v → v < cap → numbers_of (set ws i v) ≡ set (numbers_of ws) i v
  unfolding at_cap
  put_word h l = one-changed ws (set ws i v) i v inside
      (in-word (set ws i v) i (bits i inside ∙ not-cap h (omega arith)) ∙ get_or-set_same ws i v 0 (omega arith))
      (λ j m d. same_number ws (set ws i v) j (bits j m) (get_or-set_other ws i j v 0 d))
    where
      bits : (j : ℕ) → j < 4353 → at_cap (set ws i v) j ≡ at_cap ws j
      bits j m = ap (λ (w : ℕ). bit w (j % 32)) (get_or-set_other ws i (4353 + j / 32) v 0 (λ e. omega arith))

  -- the cap: by its bit
  abbrev at : ℕ
  at = 4353 + i / 32

  abbrev one_bit : ℕ
  one_bit = 1 * 2 ^ (i % 32) % 4294967296

  abbrev marked : List ℕ
  marked = set ws at (bit_or (get_or ws at 0) one_bit)

  bit_32 : (k : ℕ) → k < 32 → bit one_bit k ≡ eqb (i % 32) k
  bit_32 k h =
      let p : 2 ^ (i % 32) < 2 ^ 32 = pow-lt {j = 32} (omega arith) in
      let e : one_bit ≡ 1 * 2 ^ (i % 32) % 18446744073709551616 = mod-eq_of_lt (omega arith) ∙ sym (mod-eq_of_lt (omega arith)) in
      rw e (bit-one (i % 32) k (omega arith) (omega arith))

  bits-marked : (j : ℕ) → j / 32 ≡ i / 32 → at_cap marked j ≡ (at_cap ws j || eqb (i % 32) (j % 32))
  unfolding at_cap
  bits-marked j e =
      ap (λ (q : ℕ). bit (get_or marked (4353 + q) 0) (j % 32)) e
      ∙ ap (λ (w : ℕ). bit w (j % 32)) (get_or-set_same ws at (bit_or (get_or ws at 0) one_bit) 0 (omega arith))
      ∙ bit-or (get_or ws at 0) one_bit (j % 32)
      ∙ rw (bit_32 (j % 32) (omega arith), e) refl

  bits-others : (j : ℕ) → (j ≡ i → ⊥) → at_cap marked j ≡ at_cap ws j
  unfolding at_cap
  bits-others j d = split (eqb (j / 32) (i / 32))
      (λ t. bits-marked j (eqb-true (j / 32) (i / 32) t) ∙ rw (ne_eqb (i % 32) (j % 32) (λ q. d (omega (arith, eqb-true (j / 32) (i / 32) t)))) (or-false (at_cap ws j)))
      (λ t. elsewhere (eqb-false (j / 32) (i / 32) t))
    where
      elsewhere : (j / 32 ≡ i / 32 → ⊥) → at_cap marked j ≡ at_cap ws j
      elsewhere e = ap (λ (w : ℕ). bit w (j % 32)) (get_or-set_other ws at (4353 + j / 32) (bit_or (get_or ws at 0) one_bit) 0 (λ q. e (omega arith)))

  pub put-cap : v ≡ cap → numbers_of marked ≡ set (numbers_of ws) i v
  put-cap e = one-changed ws marked i v inside
      (in_cap marked i (bits-marked i refl ∙ or₂ (at_cap ws i) (eqb (i % 32) (i % 32)) (eq-eqb (i % 32) (i % 32) refl)) ∙ sym e)
      (λ j m d. same_number ws marked j (bits-others j d) (get_or-set_other ws at j (bit_or (get_or ws at 0) one_bit) 0 (λ q. omega arith)))

-- No numbers

pub cleared-numbers : (ws : List ℕ) → ws ≡ replicate 4490 0 → numbers_of ws ≡ replicate 4353 0
unfolding at_cap
cleared-numbers ws e = ext_get_or 0 (numbers_of ws) (replicate 4353 0) (length-numbers ws ∙ sym (length-replicate {A = ℕ} 4353 0)) (λ i h. none i (omega (arith, length-numbers ws)))
  where
    zero_word : (i : ℕ) → i < 4490 → get_or ws i 0 ≡ 0
    zero_word i h = ap (λ (l : List ℕ). get_or l i 0) e ∙ get_or-replicate 4490 i 0 0 h

    no-bit : (i : ℕ) → i < 4353 → at_cap ws i ≡ false
    no-bit i h = ap (λ (w : ℕ). bit w (i % 32)) (zero_word (4353 + i / 32) (omega arith)) ∙ bit-zero (i % 32)

    none : (i : ℕ) → i < 4353 → get_or (numbers_of ws) i 0 ≡ get_or (replicate 4353 0) i 0
    none i h = number_word ws i h (no-bit i h) ∙ zero_word i (omega arith) ∙ sym (get_or-replicate 4353 i 0 0 h)

-- Numbers whose bits stand in one word, where that word and theirs up to a place are 0
pub record ClearUpto (ws : List ℕ) (i j : ℕ) : Type 0 where
  pub bits : get_or ws (4353 + i / 32) 0 ≡ 0
  pub words : (k : ℕ) → k < j → get_or ws (i + k) 0 ≡ 0

pub clear_first : (ws : List ℕ) (i : ℕ) → eqb (get_or ws (4353 + i / 32) 0) 0 ≡ true → ClearUpto ws i 0
clear_first ws i e = record { bits = eqb-true (get_or ws (4353 + i / 32) 0) 0 e; words = λ k l. absurd (omega arith) }

pub clear_next : (ws : List ℕ) (i j : ℕ) (b : Bool) → (b ≡ true → ClearUpto ws i j) → (b && eqb (get_or ws (i + j) 0) 0) ≡ true → ClearUpto ws i (j + 1)
clear_next ws i j b f e =
    let x = and b (eqb (get_or ws (i + j) 0) 0) e in
    let c = f x.0 in
    record {
      bits = c.bits;
      words = λ k l. elim (dec_lt k j) [
        | yes y ↦ c.words k y
        | no y ↦ let d : k ≡ j = omega arith in rw d (eqb-true (get_or ws (i + j) 0) 0 x.1)
      ];
    }

pub clear-all : (ws : List ℕ) (i : ℕ) → i + 32 ≤ 4353 → i % 32 ≡ 0 → ClearUpto ws i 32 → ZeroIn (numbers_of ws) i (i + 32)
unfolding at_cap
clear-all ws i h d c = record {
  zero = λ k x y.
      let q : k / 32 ≡ i / 32 = omega arith in
      let e : i + (k - i) ≡ k = omega arith in
      let z : get_or ws k 0 ≡ 0 = rw e at (c.words (k - i) (omega arith)) in
      let no-bit : at_cap ws k ≡ false = ap (λ (n : ℕ). bit (get_or ws (4353 + n) 0) (k % 32)) q ∙ ap (λ (n : ℕ). bit n (k % 32)) c.bits ∙ bit-zero (k % 32) in
      number_word ws k (omega arith) no-bit ∙ z;
}

-- Numbers that are 0, one behind the other

pub zero-none : (ns : List ℕ) (i : ℕ) → ZeroIn ns i i
zero-none ns i = record { zero = λ k x y. absurd (omega arith) }

pub zero_one : (ns : List ℕ) (i : ℕ) → get_or ns i 0 ≡ 0 → ZeroIn ns i (i + 1)
zero_one ns i e = record { zero = λ k x y. let d : k ≡ i = omega arith in rw d e }

pub zero-less : (ns : List ℕ) (i m n : ℕ) → m ≤ n → ZeroIn ns i n → ZeroIn ns i m
zero-less ns i m n h z = record { zero = λ k x y. z.zero k x (omega arith) }

pub zero_more : {ns : List ℕ} {i m n : ℕ} → ZeroIn ns i m → ZeroIn ns m n → ZeroIn ns i n
zero_more {m = m} a b = record {
  zero = λ k x y. elim (dec_lt k m) [
    | yes l ↦ a.zero k x l
    | no l ↦ b.zero k (omega arith) y
  ];
}

-- The first half, where it is lent

pub called-all : (ws : List ℕ) → length ws ≡ 4490 → called_numbers ws ≡ numbers_of ws
unfolding called_numbers
called-all ws e = rw (eq-eqb (length ws) 4490 e) refl

pub called-none : (ws : List ℕ) → (length ws ≡ 4490 → ⊥) → called_numbers ws ≡ []
unfolding called_numbers
called-none ws n = rw (ne_eqb (length ws) 4490 n) refl

some-called : (called rows : List ℕ) (i : ℕ) → length called ≡ half → (flag_of called ≡ 1) × (called_of called rows i ≡ get_or called i 0)
unfolding flag_of called_of
some-called [] rows i e = absurd (omega arith)
some-called (n ∷ ns) rows i e = (refl, refl)

module _ (ws : List ℕ) where
  pub mark-all : length ws ≡ 4490 → 1 ≡ flag_of (called_numbers ws)
  mark-all e = rw (called-all ws e) (sym (some-called (numbers_of ws) [] 0 (length-numbers ws)).0)

  pub mark-none : (length ws ≡ 4490 → ⊥) → 0 ≡ flag_of (called_numbers ws)
  unfolding flag_of
  mark-none n = rw (called-none ws n) refl

  pub called-first : (rows : List ℕ) (i : ℕ) → length ws ≡ 4490 → called_of (called_numbers ws) rows i ≡ get_or (numbers_of ws) i 0
  called-first rows i e = rw (called-all ws e) (some-called (numbers_of ws) rows i (length-numbers ws)).1

  pub called-own : (rows : List ℕ) (i : ℕ) → (length ws ≡ 4490 → ⊥) → called_of (called_numbers ws) rows i ≡ get_or rows i 0
  unfolding called_of
  called-own rows i n = rw (called-none ws n) refl

  pub none_first : (rows : List ℕ) (i n : ℕ) → length ws ≡ 4490 → ZeroIn (numbers_of ws) i n → NoneCalled (called_numbers ws) rows i n
  none_first rows i n e z = record { zero = λ k x y. called-first rows k e ∙ z.zero k x y }

  pub none-own : (rows : List ℕ) (i n : ℕ) → (length ws ≡ 4490 → ⊥) → ZeroIn rows i n → NoneCalled (called_numbers ws) rows i n
  none-own rows i n e z = record { zero = λ k x y. called-own rows k e ∙ z.zero k x y }
