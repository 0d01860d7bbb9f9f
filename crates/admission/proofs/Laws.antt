-- Which operation stands at a location, and the search for the lowest that is not granted.
use mathlib.Core.Bool.{Bool, true, false, ◌&&◌, ◌||◌, not}
use mathlib.Core.List.{List}
use mathlib.Core.Option.{Option, none, some}
use mathlib.Core.Path.{◌≡◌, refl, sym, ◌∙◌}
use Prim.Native.Nat.{ℕ, zero, suc, ◌+◌, ◌-◌, ◌<◌, ◌≤◌, ◌/◌, ◌%◌, ◌^◌}
use native.Mathlib.Decide.{dec_le}
use native.Mathlib.Nat.{zero-div}
use native.Mathlib.Omega.{arith}
use lib.Dec.{eqb}
use lib.ListN.{length, get_or, get_or-eq_default}
use borrow.Author.Tests.{eq-eqb, ne_eqb, le-leb, not-false}
use Rattle.base.specs.Bools.{never}
use Rattle.std.specs.Prelude.{if◌then◌else◌}
use Rattle.base.specs.Common.{member}
use Rattle.machine.proofs.Decoded.{of-operation, of_two, of_word}
use Rattle.machine.proofs.Lengths.{length-rule, length_none, length-operation, length-between, length_above}
use Rattle.machine.specs.Decode.{fetch, input_any, return, end_choice, decode_operation, decode_two, decode_one, decode_word, decode_at, decode}
use Rattle.machine.specs.Lengths.{length_rule, length_of}
use Rattle.rights.specs.Rights.{bit_of, granted, operation_of, allows, right, lowest, denied, admit}
use Rattle.loading.specs.Taking.{reached, taken}
use Rattle.std.specs.Prelude.{Ok, Err, Some, None}
use Rattle.std.specs.Int.Bits.{bit_and}
use Rattle.std.proofs.lemmas.Nat.{and_mask}
use Rattle.admission.specs.Told.{said, Lowest}
use Rattle.admission.specs.declared.Denial.TheVariants.{NotTaken, NotGranted}
use Rattle.admission.specs.Flags.{Flagged, AllFlagged, wrong_at}
use Rattle.loader.proofs.Visits.{decode-none, decode-one}

-- The set

pub grants-there : (set : List ℕ) (op b x : ℕ) → 256 ≤ op → b ≡ get_or set ((op - 256) / 8) 0 → x ≡ bit_and (b / 2 ^ (7 - (op - 256) % 8)) 1 → eqb x 1 ≡ granted set op
unfolding granted bit_of
grants-there set op b x a e f =
    let m : bit_and (b / 2 ^ (7 - (op - 256) % 8)) 1 ≡ b / 2 ^ (7 - (op - 256) % 8) % 2 = and_mask (b / 2 ^ (7 - (op - 256) % 8)) 1 in
    rw (le-leb 256 op a, f, m, e) refl

pub grants-past : (set : List ℕ) (op : ℕ) → 256 ≤ op → length set ≤ (op - 256) / 8 → false ≡ granted set op
unfolding granted bit_of
grants-past set op a h = rw (le-leb 256 op a, get_or-eq_default set 0 h) (sym (zero_bit (2 ^ (7 - (op - 256) % 8))))
  where
    zero_bit : (w : ℕ) → eqb (0 / w % 2) 1 ≡ false
    zero_bit w = rw (zero-div w)

-- The operation

operation-one : (i : ℕ) → operation_of (decode_operation i) ≡ some i
unfolding operation_of
operation-one i = of-operation (λ j. operation_of j ≡ some i) i (λ _. refl) (λ _. refl) (λ _. refl) (λ _. refl)

two_none : (l i x : ℕ) → operation_of (decode_two l i x) ≡ none
unfolding operation_of
two_none l i x = of_two (λ j. operation_of j ≡ none) l i x (λ _ _. refl) (λ _ _. refl) (λ _. refl) (λ _. refl) (λ _. refl) (λ _ _ _. refl) (λ _. refl) (λ _. refl) (λ _ _ _. refl) refl

-- an instruction of one word below 256 is 4, 9 or 12
one_none : (i : ℕ) → i < 256 → length_of i ≡ 1 → operation_of (decode_one i) ≡ none
unfolding operation_of decode_one length_rule
one_none i h e = elim (dec_le 1 i) [
  | no z ↦ (let d = length_none i (omega arith) in absurd (omega arith))
  | yes a ↦ elim (dec_le i 13) [ no z ↦ (let d = length-between i (omega arith) (omega arith) in absurd (omega arith)) | yes b ↦ inner a b ]
]
  where
    go : (p q r : Bool) → ◌≡◌ {A = ℕ} (if p || q || r then 1 else 2) 1
        → operation_of (if p then input_any else (if q then return else (if r then end_choice else decode_operation i))) ≡ none
    go true q r d = refl
    go false true r d = refl
    go false false true d = refl
    go false false false d = absurd (omega arith)

    inner : 1 ≤ i → i ≤ 13 → operation_of (if eqb i 4 then input_any else (if eqb i 9 then return else (if eqb i 12 then end_choice else decode_operation i))) ≡ none
    inner a b = go (eqb i 4) (eqb i 9) (eqb i 12) (sym (rule i) ∙ sym (length-rule i a b) ∙ e)
      where
        rule : (k : ℕ) → length_rule k ≡ (if eqb k 4 || eqb k 9 || eqb k 12 then 1 else 2)
        rule k = refl

word_none : (l i : ℕ) (o : Option ℕ) → i < 256 → operation_of (decode_word l i o) ≡ none
unfolding operation_of
word_none l i o h = of_word (λ j. operation_of j ≡ none) l i o refl (λ e. one_none i h e) (λ x _. two_none l i x)

module _ (T set : List ℕ) (l i : ℕ) (here : fetch T l ≡ some i) where
  right-low : i < 256 → right T set l ≡ true
  unfolding right decode decode_at allows
  right-low h = rw (here, word_none l i (fetch T (suc l)) h)

  right-above : 1279 < i → right T set l ≡ true
  unfolding right operation_of allows
  right-above h = rw (decode-none T l i here (length_above i (omega arith)))

  right-operation : 256 ≤ i → i ≤ 1279 → right T set l ≡ granted set i
  unfolding right operation_of allows decode_one
  right-operation a b =
      rw (decode-one T l i here (length-operation i a b), ne_eqb i 4 (λ e. omega arith), ne_eqb i 9 (λ e. omega arith), ne_eqb i 12 (λ e. omega arith), operation-one i)

-- The ways out of `is_wrong`

module _ (T set seen : List ℕ) (l : ℕ) (f : Flagged T seen l) where
  pub wrong-unseen : get_or seen (l - 1) 0 ≡ 0 → false ≡ wrong_at T set l
  unfolding wrong_at
  wrong-unseen e = go (member l (reached T)) (sym f.flag ∙ eq-eqb (get_or seen (l - 1) 0) 0 e)
    where
      go : (b : Bool) → not b ≡ true → false ≡ (b && not (right T set l))
      go true d = never d
      go false d = refl

  pub wrong-right : right T set l ≡ true → false ≡ wrong_at T set l
  unfolding wrong_at
  wrong-right e = rw e (go (member l (reached T)))
    where
      go : (b : Bool) → false ≡ (b && false)
      go true = refl
      go false = refl

  pub wrong-low : (i : ℕ) → fetch T l ≡ some i → i < 256 → false ≡ wrong_at T set l
  wrong-low i h u = wrong-right (right-low T set l i h u)

  pub wrong-above : (i : ℕ) → fetch T l ≡ some i → 1279 < i → false ≡ wrong_at T set l
  wrong-above i h u = wrong-right (right-above T set l i h u)

  pub wrong-operation : (i : ℕ) (g : Bool) → fetch T l ≡ some i → (get_or seen (l - 1) 0 ≡ 0 → ⊥) → 256 ≤ i → i ≤ 1279 → g ≡ granted set i → not g ≡ wrong_at T set l
  unfolding wrong_at
  wrong-operation i g h ne a b e =
      let m : member l (reached T) ≡ true = not-false (member l (reached T)) (sym f.flag ∙ ne_eqb (get_or seen (l - 1) 0) 0 ne) in
      rw (m, right-operation T set l i h a b, ← e)

-- The search

pub flagged-at : (T seen : List ℕ) (size l : ℕ) → AllFlagged T seen size → 1 ≤ l → l ≤ size → Flagged T seen l
flagged-at T seen size zero a h u = absurd (omega arith)
flagged-at T seen size (suc i) a h u =
    let e : suc i - 1 ≡ i = omega arith in
    record {
      first = h;
      last = omega (arith, a.size_is);
      row = a.row;
      small = a.small;
      flag = rw e (a.flags i (omega (arith, a.size_is)));
    }

pub lowest-on : (T set : List ℕ) (size l r : ℕ) → l ≤ size → wrong_at T set l ≡ false → lowest T set (size + 1 - l) l ≡ r → lowest T set (size + 1 - (l + 1)) (l + 1) ≡ r
unfolding lowest wrong_at
lowest-on T set size l r h w e =
    let a : size + 1 - l ≡ suc (size + 1 - suc l) = omega arith in
    let b : l + 1 ≡ suc l = omega arith in
    rw b (rw (a, w) at e)

pub lowest-here : (T set : List ℕ) (size l r : ℕ) → 1 ≤ l → l ≤ size → wrong_at T set l ≡ true → lowest T set (size + 1 - l) l ≡ r → Lowest r (Some l)
unfolding lowest wrong_at
lowest-here T set size l r a h w e = let b : size + 1 - l ≡ suc (size + 1 - (l + 1)) = omega arith in (a, sym (rw (b, w) at e))

pub lowest-end : (T set : List ℕ) (size l r : ℕ) → size < l → lowest T set (size + 1 - l) l ≡ r → Lowest r None
unfolding lowest
lowest-end T set size l r h e = let a : size + 1 - l ≡ 0 = omega arith in sym (rw a at e)

pub denied-from : (T set : List ℕ) (size : ℕ) → size ≡ length T → lowest T set (size + 1 - 1) 1 ≡ denied T set
unfolding denied
denied-from T set size e = let a : size + 1 - 1 ≡ length T = omega arith in rw a

-- The answer

module _ (T set : List ℕ) where
  pub not_taken : false ≡ taken T → said (Err NotTaken) ≡ admit T set
  unfolding admit
  not_taken e = rw (← e) refl

  pub all-granted : true ≡ taken T → Lowest (denied T set) None → (done : Unit {0}) → said (Ok done) ≡ admit T set
  unfolding admit
  all-granted e q done = rw (← e, q) refl

  pub one-denied : true ≡ taken T → (l : ℕ) → Lowest (denied T set) (Some l) → said (Err (NotGranted l)) ≡ admit T set
  unfolding admit
  one-denied e l q = rw (← e, q.1, ne_eqb l 0 (λ z. omega (arith, z, q.0))) refl
