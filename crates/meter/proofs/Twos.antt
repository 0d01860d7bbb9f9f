-- Instructions of two words, and what stands behind a call.
use mathlib.Core.Bool.{Bool, false}
use mathlib.Core.List.{List}
use mathlib.Core.Option.{some}
use mathlib.Core.Path.{◌≡◌, refl, ap, ◌∙◌}
use native.Mathlib.Numerals.{add-one}
use native.Mathlib.Omega.{arith}
use Prim.Native.Nat.{ℕ, suc, ◌+◌, ◌-◌, ◌<◌}
use lib.ListN.{length}
use Rattle.std.specs.Prelude.{Some, None}
use Rattle.events.specs.Events.{Event}
use Rattle.loading.proofs.Members.{fetch-inside}
use Rattle.machine.proofs.Decoded.{of-operation, of_one, of_two, of-decode}
use Rattle.machine.specs.Decode.{fetch, Instruction, jump, input, write, call_rule, set_result, choice, set_parameter, decode_two, decode_one, decode_word, decode_at, decode}
use Rattle.machine.specs.Lengths.{lengths, length_of}
use Rattle.meter.specs.Makes.{over_at, Makes, makes_jump, makes_input, marks_input, makes_write, makes_result, makes_choice, makes_parameter}
use Rattle.meter.specs.Shaped.{is_choice}
use Rattle.meter.specs.Steps.{flag_of, called_of, Kept, Here, Steps, Only, only, Both, this, that, Raised, RaisedTwo, Ways, ways, WaysRaised, MakesAt, TokenVisited, ChoiceAt}
use Rattle.meter.proofs.Raising.{covers, may}

-- instructions that lead on to the next
data Plain : Instruction → Type 0 where
  plain-write : {e : Event} → Plain (write e)
  plain-result : {v : ℕ} → Plain (set_result v)
  plain-parameter : {v : ℕ} → Plain (set_parameter v)

module _ {T S called : List ℕ} {r l k : ℕ} {rows after : List ℕ} {b : Bool} (kp : Kept T S called rows) (h : Here T S called r l k) where
  as-jump : {m : ℕ} → decode T l ≡ jump m → Raised m (k + 1) rows after b → Steps T S (MakesAt T S called r l k (jump m)) called rows after b
  as-jump {m} d x = covers (λ j v z. ask z) (x.steps kp (may kp h d makes_jump))
    where
      ask : {j v : ℕ} → MakesAt T S called r l k (jump m) rows j v → Only m (k + 1) rows j v
      ask makes_jump = only

  as-input : {t flag : ℕ} → flag ≡ flag_of called → decode T l ≡ input t → RaisedTwo (over_at r) k (l + 2) flag rows after b → Steps T S (MakesAt T S called r l k (input t)) called rows after b
  as-input {t} {flag} e d x = covers (λ j v z. ask (rw (← e) at z)) (x.steps kp (may kp h d makes_input) (rw e (may kp h d marks_input)))
    where
      ask : {f j v : ℕ} → Makes T S (called_of called rows) f r l k (input t) j v → Both (Only (over_at r) k) (Only (l + 2) f) rows j v
      ask makes_input = this only
      ask marks_input = that only

  as-choice : {c : ℕ} → decode T l ≡ choice c → WaysRaised T c (k + 1) rows after b → Steps T S (MakesAt T S called r l k (choice c)) called rows after b
  as-choice {c} d x = covers (λ j v z. ask z) (x.steps kp (λ w. may kp h d (makes_choice w)))
    where
      ask : {j v : ℕ} → MakesAt T S called r l k (choice c) rows j v → Ways T c (k + 1) rows j v
      ask (makes_choice v) = ways v

  as_plain : {i : Instruction} → Plain i → decode T l ≡ i → Raised (l + 2) (k + 1) rows after b → Steps T S (MakesAt T S called r l k i) called rows after b
  as_plain (plain-write {e = e}) d x = covers (λ j v z. ask z) (x.steps kp (may kp h d makes_write))
    where
      ask : {j v : ℕ} → MakesAt T S called r l k (write e) rows j v → Only (l + 2) (k + 1) rows j v
      ask makes_write = only
  as_plain (plain-result {v = u}) d x = covers (λ j v z. ask z) (x.steps kp (may kp h d makes_result))
    where
      ask : {j v : ℕ} → MakesAt T S called r l k (set_result u) rows j v → Only (l + 2) (k + 1) rows j v
      ask makes_result = only
  as_plain (plain-parameter {v = u}) d x = covers (λ j v z. ask z) (x.steps kp (may kp h d makes_parameter))
    where
      ask : {j v : ℕ} → MakesAt T S called r l k (set_parameter u) rows j v → Only (l + 2) (k + 1) rows j v
      ask makes_parameter = only

  module _ (i x : ℕ) (d : decode T l ≡ decode_two l i x) where
    pub two-forward : i ≡ 1 → Raised (l + 1 + x) (k + 1) rows after b → Steps T S (MakesAt T S called r l k (decode_two l i x)) called rows after b
    unfolding decode_two
    two-forward e y = rw e (as-jump (rw e at d) y)

    pub two_back : {m : ℕ} → i ≡ 2 → m ≡ l + 1 - x → Raised m (k + 1) rows after b → Steps T S (MakesAt T S called r l k (decode_two l i x)) called rows after b
    unfolding decode_two
    two_back e z y = rw e (as-jump (rw e at d) (rw z at y))

    pub two-input : {flag : ℕ} → i ≡ 3 → flag ≡ flag_of called → RaisedTwo (over_at r) k (l + 2) flag rows after b → Steps T S (MakesAt T S called r l k (decode_two l i x)) called rows after b
    unfolding decode_two
    two-input e f y = rw e (as-input f (rw e at d) y)

    pub two-token : i ≡ 7 → TokenVisited T (l + 1 + x) called r l k rows after b → Steps T S (MakesAt T S called r l k (decode_two l i x)) called rows after b
    unfolding decode_two
    two-token e y = rw e (y.steps kp h (rw e at d))

    pub two-call : i ≡ 8 → Steps T S (MakesAt T S called r l k (call_rule x)) called rows after b → Steps T S (MakesAt T S called r l k (decode_two l i x)) called rows after b
    unfolding decode_two
    two-call e y = rw e y

    pub two_choice : i ≡ 11 → WaysRaised T (l + 1 + x) (k + 1) rows after b → Steps T S (MakesAt T S called r l k (decode_two l i x)) called rows after b
    unfolding decode_two
    two_choice e y = rw e (as-choice (rw e at d) y)

    pub two-plain : (i ≡ 1 → ⊥) → (i ≡ 2 → ⊥) → (i ≡ 3 → ⊥) → (i ≡ 7 → ⊥) → (i ≡ 8 → ⊥) → (i ≡ 11 → ⊥) → Raised (l + 2) (k + 1) rows after b → Steps T S (MakesAt T S called r l k (decode_two l i x)) called rows after b
    unfolding decode_two
    two-plain n₁ n₂ n₃ n₇ n₈ n₁₁ y = as_plain plains d y
      where
        plains : Plain (decode_two l i x)
        plains = of_two Plain l i x (λ e. absurd (n₁ e)) (λ e. absurd (n₂ e)) (λ e. absurd (n₃ e)) (λ _. plain-write) (λ _. plain-write) (λ e. absurd (n₇ e)) (λ e. absurd (n₈ e)) (λ _. plain-result) (λ e. absurd (n₁₁ e)) plain-parameter

-- What stands at l

one-no-choice : (i : ℕ) → is_choice (decode_one i) ≡ false
unfolding is_choice
one-no-choice i = of_one no i (λ _. refl) (λ _. refl) (λ _. refl) (of-operation no i (λ _. refl) (λ _. refl) (λ _. refl) (λ _. refl))
  where
    no : Instruction → Type 0
    no j = is_choice j ≡ false

two-no-choice : (l i x : ℕ) → (i ≡ 11 → ⊥) → is_choice (decode_two l i x) ≡ false
unfolding is_choice
two-no-choice l i x n = of_two (λ j. is_choice j ≡ false) l i x (λ _ _. refl) (λ _ _. refl) (λ _. refl) (λ _. refl) (λ _. refl) (λ _ _ _. refl) (λ _. refl) (λ _. refl) (λ e. absurd (n e)) refl

no-choice-at : (T : List ℕ) (l : ℕ) → ((i x : ℕ) → fetch T l ≡ some i → fetch T (suc l) ≡ some x → i ≡ 11 → ⊥) → ChoiceAt T l None
unfolding is_choice
no-choice-at T l f = of-decode (λ j. is_choice j ≡ false) T l refl (λ i _. one-no-choice i) (λ i x a b. two-no-choice l i x (f i x a b))

pub choice-other : (T : List ℕ) (l : ℕ) {i : ℕ} → fetch T l ≡ some i → (i ≡ 11 → ⊥) → ChoiceAt T l None
choice-other T l f n = no-choice-at T l (λ j x a _ e. n cc)

pub choice-cut : (T : List ℕ) (l : ℕ) → length T < l + 1 → ChoiceAt T l None
choice-cut T l h = no-choice-at T l (λ i x _ b _. omega (arith, (fetch-inside T (suc l) (rw b refl)).1))

pub choice-here : (T : List ℕ) (l : ℕ) {i x c : ℕ} → fetch T l ≡ some i → i ≡ 11 → fetch T (l + 1) ≡ some x → c ≡ l + 1 + x → ChoiceAt T l (Some c)
unfolding decode decode_at decode_word decode_two length_of lengths
choice-here T l {i} {x} f e g z =
    let f₁ : fetch T l ≡ some 11 = f ∙ ap some e in
    let g₁ : fetch T (suc l) ≡ some x = rw (add-one l) at g in
    let d : decode T l ≡ choice (l + 1 + x) = rw (f₁, g₁) refl in
    rw z d
