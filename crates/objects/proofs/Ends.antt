-- Takers from a place on, one law for each way of putting them together.
use mathlib.Core.List.{List, ◌∷◌}
use mathlib.Core.Option.{none, some}
use mathlib.Core.Path.{◌≡◌, refl, sym, subst}
use native.Mathlib.Numerals.{add-one}
use native.Mathlib.Omega.{arith}
use Prim.Native.Nat.{ℕ, zero, suc, ◌+◌, ◌<◌, ◌≤◌}
use borrow.Author.Tests.{le-leb, lt-leb, ne_eqb}
use lib.ListN.{length, get_or, drop, length-drop, drop_of_length-le}
use lib.Seq.{drop-cons, drop-drop}
use mathlib.Core.Logic.{◌⊎◌, inl, inr}
use Rattle.base.proofs.Laws.{lt-or-le}
use Rattle.base.specs.Bools as bools
use Rattle.std.specs.Prelude.{Option, Some, None}
use Rattle.objects.specs.Places.{EndsAt, Ends}
use Rattle.objects.specs.Take.{Taken, took, missing, Taker, onward, ◌>>=◌, pure, refuse, a_word, some_words, times}
use Rattle.objects.specs.View.{a_name, if_named, an_option, a_pair, some_calls, some_cells, a_rule}

two : (n : ℕ) → n + 2 ≡ n + 1 + 1
two n = omega arith

module _ {words : List ℕ} where
  -- what is taken ends at p, and then the rest at r
  pub bind-on : {A C : Type 0} (m : Taker A) (f : A → Taker C) {at p : ℕ} {r : Option ℕ} → Ends m words at (Some p) → ((a : A) → Ends (f a) words p r) → Ends (◌>>=◌ m f) words at r
  unfolding EndsAt onward
  bind-on {A} m f {at = at} {p = p} {r = r} x h = record { is = go (m (drop at words)) x.is }
    where
      go : (t : Taken A) → EndsAt words t (Some p) → EndsAt words (onward t f) r
      go (took a rest) e = rw e.0 (h a).is
      go missing e = bools.never (sym e)

  pub bind-off : {A C : Type 0} (m : Taker A) (f : A → Taker C) {at : ℕ} → Ends m words at None → Ends (◌>>=◌ m f) words at None
  unfolding EndsAt onward
  bind-off {A} m f {at = at} x = record { is = go (m (drop at words)) x.is }
    where
      go : (t : Taken A) → EndsAt words t None → EndsAt words (onward t f) None
      go (took a rest) e = absurd e
      go missing e = refl

  pub ends-here : {A : Type 0} (a : A) {p : ℕ} → p ≤ length words → Ends (pure a) words p (Some p)
  unfolding EndsAt
  ends-here a l = record { is = (refl, l) }

  -- the same with what was taken made into something else
  pub ends_as : {A C : Type 0} (m : Taker A) (f : A → C) {at : ℕ} {r : Option ℕ} → Ends m words at r → Ends (◌>>=◌ m (λ a. pure (f a))) words at r
  unfolding EndsAt onward
  ends_as {A} m f {at = at} {r = r} x = record { is = go (m (drop at words)) x.is }
    where
      go : (t : Taken A) → EndsAt words t r → EndsAt words (onward t (λ a. pure (f a))) r
      go (took a rest) e = e
      go missing e = e

  -- a word that is there, and one that is not
  pub bind_word : {C : Type 0} (f : ℕ → Taker C) {at : ℕ} {r : Option ℕ} → at < length words → Ends (f (get_or words at 0)) words (at + 1) r → Ends (◌>>=◌ a_word f) words at r
  unfolding EndsAt onward a_word
  bind_word f {at = at} l h = record { is = rw (drop-cons words at 0 l, ← add-one at) h.is }

  pub bind-no-word : {C : Type 0} (f : ℕ → Taker C) {at : ℕ} → length words ≤ at → Ends (◌>>=◌ a_word f) words at None
  unfolding EndsAt onward a_word
  bind-no-word f {at = at} l = record { is = rw (drop_of_length-le words l) refl }

  pub some_words_lem : (n : ℕ) {at : ℕ} → at + n ≤ length words → Ends (some_words n) words at (Some (at + n))
  unfolding EndsAt some_words
  some_words_lem n {at} l =
      let d = length-drop at words in
      record { is = rw (le-leb n (length (drop at words)) (omega (arith, d, l))) (drop-drop n at words, l) }

  pub no_words : (n : ℕ) {at : ℕ} → at ≤ length words → length words < at + n → Ends (some_words n) words at None
  unfolding EndsAt some_words
  no_words n {at} h l =
      let d = length-drop at words in
      record { is = rw (lt-leb n (length (drop at words)) (omega (arith, d, l, h))) refl }

  -- a name: two words, and as many as the second says
  pub name-ends : {at : ℕ} {r : Option ℕ} → at + 2 ≤ length words → Ends (some_words (get_or words (at + 1) 0)) words (at + 2) r → Ends a_name words at r
  unfolding a_name
  name-ends {at} {r} l h = bind_word _ (omega (arith, l)) (bind_word _ (omega (arith, l)) (ends_as (some_words (get_or words (at + 1) 0)) _ (subst (λ n. Ends (some_words (get_or words (at + 1) 0)) words n r) (two at) h)))

  pub no_name : {at : ℕ} → length words < at + 2 → Ends a_name words at None
  unfolding a_name
  no_name {at} l = go (lt-or-le at (length words))
    where
      go : (at < length words) ⊎ (length words ≤ at) → Ends a_name words at None
      go (inl h) = bind_word _ h (bind-no-word _ (omega (arith, l)))
      go (inr h) = bind-no-word _ h

  -- an option: by its first word
  pub no-option : {at : ℕ} → length words ≤ at → Ends an_option words at None
  unfolding an_option
  no-option l = bind-no-word _ l

  pub option-none : {at : ℕ} → at < length words → get_or words at 0 ≡ 0 → Ends an_option words at (Some (at + 1))
  unfolding an_option if_named
  option-none {at} l d = bind_word if_named l (rw d (ends-here none (omega (arith, l))))

  pub option-some : {at : ℕ} {r : Option ℕ} → at < length words → get_or words at 0 ≡ 1 → Ends a_name words (at + 1) r → Ends an_option words at r
  unfolding an_option if_named
  option-some {at} {r} l d h = bind_word if_named l (rw d (ends_as a_name (λ n. some n) h))

  pub option-not : {at : ℕ} → at < length words → (get_or words at 0 ≡ 0 → ⊥) → (get_or words at 0 ≡ 1 → ⊥) → Ends an_option words at None
  unfolding an_option if_named refuse EndsAt
  option-not {at} l d₀ d₁ = bind_word if_named l (rw (ne_eqb (get_or words at 0) 0 d₀, ne_eqb (get_or words at 0) 1 d₁) (record { is = refl }))

  -- a pair: two words and two names
  pub no-pair : {at : ℕ} → length words < at + 2 → Ends a_pair words at None
  unfolding a_pair
  no-pair {at} l = go (lt-or-le at (length words))
    where
      go : (at < length words) ⊎ (length words ≤ at) → Ends a_pair words at None
      go (inl h) = bind_word _ h (bind-no-word _ (omega (arith, l)))
      go (inr h) = bind-no-word _ h

  pub pair-off : {at : ℕ} → at + 2 ≤ length words → Ends a_name words (at + 2) None → Ends a_pair words at None
  unfolding a_pair
  pair-off {at} l x = bind_word _ (omega (arith, l)) (bind_word _ (omega (arith, l)) (bind-off a_name _ (subst (λ n. Ends a_name words n None) (two at) x)))

  pub pair_ends : {at p : ℕ} {r : Option ℕ} → at + 2 ≤ length words → Ends a_name words (at + 2) (Some p) → Ends a_name words p r → Ends a_pair words at r
  unfolding a_pair
  pair_ends {at} {p} {r} l x y = bind_word _ (omega (arith, l)) (bind_word _ (omega (arith, l)) (bind-on a_name _ (subst (λ n. Ends a_name words n (Some p)) (two at) x) (λ a. ends_as a_name _ y)))

  -- what a word counts
  pub no-calls : {at : ℕ} → length words ≤ at → Ends some_calls words at None
  unfolding some_calls
  no-calls l = bind-no-word _ l

  pub calls-end : {at : ℕ} {r : Option ℕ} → at < length words → Ends (times (get_or words at 0) a_name) words (at + 1) r → Ends some_calls words at r
  unfolding some_calls
  calls-end l h = bind_word (λ n. times n a_name) l h

  pub no_cells : {at : ℕ} → length words ≤ at → Ends some_cells words at None
  unfolding some_cells
  no_cells l = bind-no-word _ l

  pub cells-end : {at : ℕ} {r : Option ℕ} → at < length words → Ends (some_words (get_or words at 0)) words (at + 1) r → Ends some_cells words at r
  unfolding some_cells
  cells-end l h = bind_word (λ n. some_words n) l h

  -- a rule
  pub rule-off : {at : ℕ} → Ends a_name words at None → Ends a_rule words at None
  unfolding a_rule
  rule-off x = bind-off a_name _ x

  pub rule-off-gives : {at p : ℕ} → Ends a_name words at (Some p) → Ends an_option words p None → Ends a_rule words at None
  unfolding a_rule
  rule-off-gives x y = bind-on a_name _ x (λ _. bind-off an_option _ y)

  pub rule-off-calls : {at p q : ℕ} → Ends a_name words at (Some p) → Ends an_option words p (Some q) → Ends some_calls words q None → Ends a_rule words at None
  unfolding a_rule
  rule-off-calls x y z = bind-on a_name _ x (λ _. bind-on an_option _ y (λ _. bind-off some_calls _ z))

  pub rule-ends : {at p q s : ℕ} {r : Option ℕ} → Ends a_name words at (Some p) → Ends an_option words p (Some q) → Ends some_calls words q (Some s) → Ends some_cells words s r → Ends a_rule words at r
  unfolding a_rule
  rule-ends x y z u = bind-on a_name _ x (λ _. bind-on an_option _ y (λ _. bind-on some_calls _ z (λ _. ends_as some_cells _ u)))

  -- as many times
  pub times_none : {A : Type 0} (m : Taker A) {p : ℕ} → p ≤ length words → Ends (times 0 m) words p (Some p)
  unfolding EndsAt times
  times_none m l = record { is = (refl, l) }

  pub times-on : {A : Type 0} (m : Taker A) (n : ℕ) {at p : ℕ} {r : Option ℕ} → Ends m words at (Some p) → Ends (times n m) words p r → Ends (times (suc n) m) words at r
  unfolding times
  times-on m n x h = let y = bind-on m _ x (λ a. ends_as (times n m) (λ as'. a ∷ as') h) in record { is = y.is }

  pub times-off : {A : Type 0} (m : Taker A) (n : ℕ) {at : ℕ} → Ends m words at None → Ends (times (suc n) m) words at None
  unfolding times
  times-off m n x = let y = bind-off m _ x in record { is = y.is }

-- a loop that takes n of them: with m left from p on, what ends behind those ends behind all
pub record Left {A : Type 0} (t : Taker A) (words : List ℕ) (n at m p : ℕ) : Type 0 where
  pub all-ends : (r : Option ℕ) → Ends (times m t) words p r → Ends (times n t) words at r

module _ {A : Type 0} (t : Taker A) {words : List ℕ} where
  pub left-all : {n at m p : ℕ} → m ≡ n → p ≡ at → Left t words n at m p
  left-all e d = record { all-ends = λ r h. rw (e, d) at h }

  pub left-more : {n at m m₁ p p₁ : ℕ} → Left t words n at m p → m ≡ m₁ + 1 → Ends t words p (Some p₁) → Left t words n at m₁ p₁
  left-more {m₁ = m₁} h e x = record { all-ends = λ r y. h.all-ends r (rw (e, add-one m₁) (times-on t m₁ x y)) }

  pub left-off : {n at m p : ℕ} → Left t words n at m p → 0 < m → Ends t words p None → Ends (times n t) words at None
  left-off {m = zero} h z x = absurd (omega (arith, z))
  left-off {m = suc m} h z x = h.all-ends None (times-off t m x)

  pub left-none : {n at m p : ℕ} → Left t words n at m p → m ≡ 0 → p ≤ length words → Ends (times n t) words at (Some p)
  left-none {p = p} h e l = h.all-ends (Some p) (rw e (times_none t l))
