-- Choices by the present token, and values that a called rule sets.
use mathlib.Core.Bool.{Bool, false, ◌||◌}
use mathlib.Core.List.{List}
use mathlib.Core.Option.{Option, none, some}
use mathlib.Core.Path.{◌≡◌, refl, sym, ap, ◌∙◌}
use native.Mathlib.Numerals.{add-one}
use native.Mathlib.Omega.{arith}
use Prim.Native.Nat.{ℕ, suc, ◌+◌, ◌*◌, ◌≤◌}
use lib.ListN.{length}
use Rattle.base.proofs.Laws.{above_zero}
use Rattle.loading.proofs.Members.{fetch-inside}
use Rattle.machine.proofs.Decoded.{of-operation, of_one, of_two, of-decode}
use Rattle.machine.specs.Decode.{fetch, Instruction, invalid, jump, input, input_any, write, input_choice, call_rule, return, set_result, choice, end_choice, set_parameter, update, update_with, choose, choose_with, decode_two, decode_one, decode_word, decode_at, decode}
use Rattle.machine.specs.Lengths.{lengths, length_of}
use Rattle.figure.specs.Figure.{way_out}
use Rattle.meter.specs.Makes.{over_at, Makes, makes_token, makes_default, marks_label, makes_call_value}
use Rattle.meter.specs.Shaped.{start_of}
use Rattle.meter.specs.Steps.{flag_of, called_of, Kept, Steps, Only, only, Both, this, that, Raised, RaisedTwo, Ways, ways, WaysRaised, TokenVisited, ValueAt, value_at, ValueHere}
use Rattle.meter.proofs.Raising.{stays, seq, covers, may}
use Rattle.meter.proofs.Words.{default-way}

-- A choice by the present token

pub token-visited : {T : List ℕ} {c : ℕ} {called : List ℕ} {r l k n flag : ℕ} {rows mid after : List ℕ} {a b e : Bool} → fetch T c ≡ some n → flag ≡ flag_of called → WaysRaised T c flag rows mid a
    → RaisedTwo (over_at r) k (c + 1 + 2 * n) (k + 1) mid after b → e ≡ (a || b) → TokenVisited T c called r l k rows after e
token-visited {T} {c} {called} {r} {l} {k} {n} {flag} f g x y q = rw q (record {
  sized = y.sized ∙ x.sized;
  steps = λ kp h d.
      let s = x.steps kp (λ w. rw g (may kp h d (marks_label w))) in
      covers (λ j v m. ask (rw (← g) at m)) (seq s (y.steps s.kept (may s.kept h d makes_token) (rw (← default-way T c f) (may s.kept h d makes_default))));
})
  where
    ask : {S : List ℕ} {numbers : ℕ → ℕ} {fl j v : ℕ} {rows : List ℕ} → Makes T S numbers fl r l k (input_choice c) j v → Both (Ways T c fl) (Both (Only (over_at r) k) (Only (c + 1 + 2 * n) (k + 1))) rows j v
    ask makes_token = that (this only)
    ask makes_default = that (that (rw (default-way T c f) only))
    ask (marks_label w) = this (ways w)

-- Where a value is set

value_of : Instruction → Option ℕ
value_of invalid = none
value_of (jump m) = none
value_of (input t) = none
value_of input_any = none
value_of (write e) = none
value_of (input_choice c) = none
value_of (call_rule s) = none
value_of return = none
value_of (set_result v) = some v
value_of (choice c) = none
value_of end_choice = none
value_of (set_parameter v) = none
value_of (update op) = none
value_of (update_with op) = none
value_of (choose op) = none
value_of (choose_with op) = none

not_some : {A : Type 0} {v : ℕ} → ◌≡◌ {A = Option ℕ} none (some v) → A
not_some e = let z : ◌≡◌ {A = ℕ} 0 1 = cc in absurd (omega arith)

one_value : {A : Type 0} (i v : ℕ) → value_of (decode_one i) ≡ some v → A
unfolding value_of
one_value {A} i v = of_one no i (λ _. not_some) (λ _. not_some) (λ _. not_some) (of-operation no i (λ _. not_some) (λ _. not_some) (λ _. not_some) (λ _. not_some))
  where
    no : Instruction → Type 0
    no j = value_of j ≡ some v → A

two-value : (l i x v : ℕ) → value_of (decode_two l i x) ≡ some v → (i ≡ 10) × (x ≡ v)
unfolding value_of
two-value l i x v =
    of_two (λ j. value_of j ≡ some v → (i ≡ 10) × (x ≡ v)) l i x (λ _ _. not_some) (λ _ _. not_some) (λ _. not_some) (λ _. not_some) (λ _. not_some)
    (λ _ _ _. not_some) (λ _. not_some) (λ e z. (e, (let q : x ≡ v = cc in q))) (λ _ _ _. not_some) not_some

set_words : (T : List ℕ) (p v : ℕ) → decode T p ≡ set_result v → (fetch T p ≡ some 10) × (fetch T (p + 1) ≡ some v)
unfolding value_of
set_words T p v d =
    rw (add-one p) (of-decode (λ j. value_of j ≡ some v → (fetch T p ≡ some 10) × (fetch T (suc p) ≡ some v)) T p not_some (λ i _. one_value i v)
    (λ i x a b z. let y = two-value p i x v z in (a ∙ ap some y.0, b ∙ ap some y.1)) (ap value_of d))

set-decode : (T : List ℕ) (p : ℕ) {i v : ℕ} → fetch T p ≡ some i → i ≡ 10 → fetch T (p + 1) ≡ some v → decode T p ≡ set_result v
unfolding decode decode_at decode_word decode_two length_of lengths
set-decode T p {i} {v} f e g =
    let f₁ : fetch T p ≡ some 10 = f ∙ ap some e in
    let g₁ : fetch T (suc p) ≡ some v = rw (add-one p) at g in
    rw (f₁, g₁) refl

module _ {T S called : List ℕ} {k c p : ℕ} {rows : List ℕ} (kp : Kept T S called rows) where
  no_value : ((v : ℕ) → decode T p ≡ set_result v → ⊥) → Steps T S (ValueAt T called c k p) called rows rows false
  no_value f = stays kp (λ i v m. absurd (none_here m))
    where
      none_here : {i v : ℕ} → ValueAt T called c k p rows i v → ⊥
      none_here (value_at {v = v} d z) = f v d

  pub value-cut : length T ≤ p → Steps T S (ValueAt T called c k p) called rows rows false
  value-cut h = no_value (λ v d. let z = fetch-inside T (p + 1) (rw (set_words T p v d).1 refl) in omega (arith, z.1))

  pub value-other : {i : ℕ} → fetch T p ≡ some i → (i ≡ 10 → ⊥) → Steps T S (ValueAt T called c k p) called rows rows false
  value-other {i} f n = no_value (λ v d. n (let z : some i ≡ some 10 = sym f ∙ (set_words T p v d).0 in cc))

  pub value-unreached : called_of called rows p ≡ 0 → Steps T S (ValueAt T called c k p) called rows rows false
  value-unreached e = stays kp (λ i v m. absurd (none_here m))
    where
      none_here : {i v : ℕ} → ValueAt T called c k p rows i v → ⊥
      none_here (value_at d z) = omega arith

  pub value-raised : {r l i v m way u : ℕ} {after : List ℕ} {b : Bool} → ValueHere T S called r l k c p → fetch T p ≡ some i → i ≡ 10 → fetch T (p + 1) ≡ some v → m ≡ called_of called rows p → (m ≡ 0 → ⊥)
      → way ≡ way_out T c (some v) → u ≡ k + m + 3 → Raised way u rows after b → Steps T S (ValueAt T called c k p) called rows after b
  value-raised {r} {l} {i} {v} {m} {way} {u} {after} {b} h f e g z s w y x =
      let d = set-decode T p f e g in
      let t : u ≡ k + called_of called rows p + 3 = y ∙ ap (λ (n : ℕ). k + n + 3) z in
      let x₁ : Raised (way_out T c (some v)) (k + called_of called rows p + 3) rows after b = rw (w, t) at x in
      covers (λ j n a. ask d a) (x₁.steps kp (may kp h.here.here h.here.calls (makes d)))
    where
      ask : decode T p ≡ set_result v → {j n : ℕ} → ValueAt T called c k p rows j n → Only (way_out T c (some v)) (k + called_of called rows p + 3) rows j n
      ask d (value_at {v = a} d₁ q) = let o : a ≡ v = (let o₁ : set_result a ≡ set_result v = sym d₁ ∙ d in cc) in rw o only

      makes : decode T p ≡ set_result v → Makes T S (called_of called rows) (flag_of called) r l k (call_rule (start_of S h.rule)) (way_out T c (some v)) (k + called_of called rows p + 3)
      makes d = makes_call_value {s = start_of S h.rule} {p = p} (rw h.here.is_index h.here.found) h.chooses (rw h.here.is_index h.in_rule) d (above_zero (called_of called rows p) (λ n. s (z ∙ n)))
