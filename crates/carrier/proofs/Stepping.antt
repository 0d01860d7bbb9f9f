-- Two texts' sections in step: what the loop of `same_sections` keeps.
use mathlib.Core.Bool.{Bool, true, false}
use mathlib.Core.List.{List, [], ◌∷◌}
use mathlib.Core.Logic.{◌⊎◌, inl, inr}
use mathlib.Core.Path.{◌≡◌, refl, sym, ◌∙◌}
use Prim.Native.Nat.{ℕ, ◌<◌, ◌≤◌}
use native.Mathlib.Omega.{arith}
use lib.Dec.{eqb}
use lib.ListN.{length}
use borrow.Author.Tests.{eqb-true, eqb-false, eq-eqb, ne_eqb}
use Rattle.base.proofs.Laws.{lt-or-le}
use Rattle.base.specs.Common.{same}
use Rattle.carry.specs.Carry.{same_all, section_words}
use Rattle.scanner.specs.Next.{as_word, Next}
use Rattle.scanner.specs.declared.WordAt.{WordAt}
use Rattle.symbols.specs.Search.{part}
use Rattle.words.specs.Words.{Word, words, words_at}
use Rattle.carrier.specs.Sections.{HasRules, Sections}

pub record Steps (old new : List ℕ) (i j : ℕ) : Type 0 where
  pub low : i ≤ length old
  pub olds : HasRules (words old) → HasRules (words_at old i)
  pub news : HasRules (words new) → HasRules (words_at new j)
  pub rest : same_all (section_words (words_at old i)) (section_words (words_at new j)) ≡ same_all (section_words (words old)) (section_words (words new))

pub steps_first : {old new : List ℕ} → Steps old new 0 0
unfolding words_at words
steps_first = record { low = omega arith; olds = λ h. h; news = λ h. h; rest = refl }

-- the first word of a text from a place on, whatever follows
record Head (text : List ℕ) (at : ℕ) (w : WordAt) : Type 0 where
  tail : List Word
  is : words_at text at ≡ as_word text w ∷ tail

head : {text : List ℕ} {at : ℕ} {w : WordAt} → Next text at w → Head text at w
head {text} {at} {w} n = go w.kind refl
  where
    go : (k : ℕ) → w.kind ≡ k → Head text at w
    go k e = by-low (lt-or-le k 2)
      where
        by-low : (k < 2) ⊎ (2 ≤ k) → Head text at w
        by-low (inl l) = record { tail = []; is = n.final (omega (arith, e, l)) }
        by-low (inr l) = record { tail = words_at text w.next; is = n.more (omega (arith, e, l)) }

-- a text whose sections end here
ends-here : (text : List ℕ) (at : ℕ) (w : WordAt) → Next text at w → w.kind ≡ 265 → section_words (words_at text at) ≡ []
unfolding section_words
ends-here text at w n e = let h = head n in rw (h.is, eq-eqb w.kind 265 e) refl

goes_on : (text : List ℕ) (at : ℕ) (w : WordAt) → Next text at w → (w.kind ≡ 265 → ⊥) → 2 ≤ w.kind → section_words (words_at text at) ≡ part text w.start w.len ∷ section_words (words_at text w.next)
unfolding section_words
goes_on text at w n e l = rw (n.more l, ne_eqb w.kind 265 e) refl

-- one that has no word `rules` from here on
no-rules : {A : Type 0} (text : List ℕ) (at : ℕ) (w : WordAt) → Next text at w → (w.kind ≡ 265 → ⊥) → w.kind < 2 → HasRules (words_at text at) → A
unfolding HasRules
no-rules {A} text at w n e l h = go (rw (n.final l) at h)
  where
    go : (w.kind ≡ 265) ⊎ ⊥ → A
    go (inl x) = absurd (e x)
    go (inr x) = absurd x

not-empty : (text : List ℕ) (at : ℕ) (w : WordAt) → Next text at w → (w.kind ≡ 265 → ⊥) → false ≡ same_all [] (section_words (words_at text at))
unfolding section_words same_all
not-empty text at w n e = let h = head n in rw (h.is, ne_eqb w.kind 265 e) refl

module _ {old new : List ℕ} {i j : ℕ} {w v : WordAt} (s : Steps old new i j) (n : Next old i w) (m : Next new j v) where
  pub both_end : w.kind ≡ 265 → Sections old new (eqb v.kind 265)
  unfolding same_all
  both_end e = record { same_as = λ h k. go (eqb v.kind 265) refl }
    where
      go : (t : Bool) → eqb v.kind 265 ≡ t → t ≡ same_all (section_words (words old)) (section_words (words new))
      go true f = sym (rw (ends-here old i w n e, ends-here new j v m (eqb-true v.kind 265 f)) refl) ∙ s.rest
      go false f = (not-empty new j v m (eqb-false v.kind 265 f) ∙ sym (rw (ends-here old i w n e) refl)) ∙ s.rest

  pub new-ends : (w.kind ≡ 265 → ⊥) → v.kind ≡ 265 → Sections old new false
  unfolding same_all section_words
  new-ends e f = record { same_as = λ h k. it }
    where
      it : false ≡ same_all (section_words (words old)) (section_words (words new))
      it = let x = head n in sym (rw (x.is, ne_eqb w.kind 265 e, ends-here new j v m f) refl) ∙ s.rest

  pub old-lacks : (w.kind ≡ 265 → ⊥) → w.kind < 2 → Sections old new false
  old-lacks e l = record { same_as = λ h k. no-rules old i w n e l (s.olds h) }

  pub new-lacks : (v.kind ≡ 265 → ⊥) → v.kind < 2 → Sections old new false
  new-lacks e l = record { same_as = λ h k. no-rules new j v m e l (s.news k) }

  pub words-differ : (w.kind ≡ 265 → ⊥) → (v.kind ≡ 265 → ⊥) → 2 ≤ w.kind → 2 ≤ v.kind → (r : Bool) → r ≡ same (part old w.start w.len) (part new v.start v.len) → r ≡ false → Sections old new false
  unfolding same_all
  words-differ e f a b r d t = record { same_as = λ h k. sym (rw (goes_on old i w n e a, goes_on new j v m f b, sym d ∙ t) refl) ∙ s.rest }

  later : (text : List ℕ) (at : ℕ) (x : WordAt) → Next text at x → (x.kind ≡ 265 → ⊥) → 2 ≤ x.kind → HasRules (words_at text at) → HasRules (words_at text x.next)
  unfolding HasRules
  later text at x q e l h = go (rw (q.more l) at h)
    where
      go : (x.kind ≡ 265) ⊎ HasRules (words_at text x.next) → HasRules (words_at text x.next)
      go (inl y) = absurd (e y)
      go (inr y) = y

  pub steps_next : (w.kind ≡ 265 → ⊥) → (v.kind ≡ 265 → ⊥) → 2 ≤ w.kind → 2 ≤ v.kind → (r : Bool) → r ≡ same (part old w.start w.len) (part new v.start v.len) → r ≡ true
      → Steps old new w.next v.next
  unfolding same_all
  steps_next e f a b r d t = record {
    low = n.high s.low;
    olds = λ h. later old i w n e a (s.olds h);
    news = λ h. later new j v m f b (s.news h);
    rest = sym (rw (goes_on old i w n e a, goes_on new j v m f b, sym d ∙ t) refl) ∙ s.rest;
  }
