-- Laws of the walker's definitions that the proofs of several functions cite. Assumes nothing.
use mathlib.Core.Path.{◌≡◌, refl, sym, ap, ◌∙◌}
use mathlib.Core.Bool.{Bool, true, false}
use mathlib.Core.List.{List}
use Prim.Native.Nat.{ℕ, zero, suc, ◌+◌, ◌*◌, ◌-◌, ◌<◌, ◌≤◌}
use native.Mathlib.Omega.{arith}
use lib.Dec.{leb, ltb}
use borrow.Author.Tests.{eq-eqb, ne_eqb, le-leb, lt-leb, lt-ltb, le-ltb, ltb-true}
use Rattle.base.specs.Bools.{split}
use Rattle.machine.specs.Bytes.{word_at}
use Rattle.machine.specs.Lengths.{lengths, length_of}
use Rattle.walker.specs.Shape.{size, swapped, find_from, label_of, otherwise_of, labelled_of, act_of, operate_of, fetched_of}
use Rattle.walker.specs.declared.Next.{Next}
use Rattle.walker.specs.declared.Registers.{Registers}

-- Labels

pub find-end : (t : List ℕ) (b x k i : ℕ) → k ≡ 0 → find_from t b x k i ≡ i
unfolding find_from
find-end t b x k i e = rw e refl

pub find-hit : (t : List ℕ) (b x k i : ℕ) → 0 < k → word_at t (b + 2 * i) ≡ x → find_from t b x k i ≡ i
unfolding find_from
find-hit t b x zero i h e = absurd (omega arith)
find-hit t b x (suc k) i h e = rw (eq-eqb (word_at t (b + 2 * i)) x e, find_from) refl

pub find-miss : (t : List ℕ) (b x k j i : ℕ) → k ≡ j + 1 → (word_at t (b + 2 * i) ≡ x → ⊥) → find_from t b x k i ≡ find_from t b x j (i + 1)
unfolding find_from
find-miss t b x zero j i h e = absurd (omega arith)
find-miss t b x (suc k) j i h e =
    let same : k ≡ j = omega arith in
    rw (ne_eqb (word_at t (b + 2 * i)) x e, find_from) (ap (λ (n : ℕ). find_from t b x n (i + 1)) same)

-- two words are the same if they are with their bytes exchanged
pub swapped_same : (x y : ℕ) → x < 65536 → y < 65536 → swapped x ≡ swapped y → x ≡ y
unfolding swapped
swapped_same x y h k e = omega arith

-- index at is that of label i, and none before it is x
pub record Sought (t : List ℕ) (b labels x at : ℕ) : Type 0 where
  pub i : ℕ
  pub place : at ≡ b + 2 * i
  pub within : i ≤ labels
  pub same : find_from t b x (labels - i) i ≡ find_from t b x labels 0

module _ (t : List ℕ) (b labels x at : ℕ) (s : Sought t b labels x at) where
  word-at : word_at t at ≡ word_at t (b + 2 * s.i)
  word-at = ap (word_at t) s.place

  pub sought-hit : at < b + 2 * labels → word_at t at ≡ x → label_of t at ≡ labelled_of t b labels x
  unfolding labelled_of
  sought-hit h e =
      let p = s.place in
      let f : find_from t b x labels 0 ≡ s.i = sym s.same ∙ find-hit t b x (labels - s.i) s.i (omega arith) (sym word-at ∙ e) in
      let g : s.i < labels = omega arith in
      rw (f, lt-ltb s.i labels g) (ap (label_of t) s.place)

  pub sought-next : at < b + 2 * labels → (word_at t at ≡ x → ⊥) → Sought t b labels x (at + 2)
  sought-next h e =
      let p = s.place in
      record {
        i = s.i + 1;
        place = omega arith;
        within = omega arith;
        same = sym (find-miss t b x (labels - s.i) (labels - (s.i + 1)) s.i (omega arith) (λ q. e (word-at ∙ q))) ∙ s.same;
      }

  pub sought-none : b + 2 * labels ≤ at → otherwise_of (size t) (b + 2 * labels) ≡ labelled_of t b labels x
  unfolding labelled_of
  sought-none h =
      let p = s.place in
      let w = s.within in
      let f : find_from t b x labels 0 ≡ s.i = sym s.same ∙ find-end t b x (labels - s.i) s.i (omega arith) in
      let g : labels ≤ s.i = omega arith in
      rw (f, le-ltb s.i labels g)

-- The numbers 0 to 13

-- a number below k + 1 that is not k is below k
pub less : {n : ℕ} (k : ℕ) → n < k + 1 → (n ≡ k → ⊥) → n < k
less k h ne = omega arith

pub zero_of : {n : ℕ} → n < 1 → n ≡ 0
zero_of h = omega arith

-- an instruction of two words whose second is in the table of s words, or is not
pub inside : {n len s : ℕ} (l : ℕ) → l + len - 1 ≤ n → n ≡ s → len ≡ 2 → leb (l + 2) (s + 1) ≡ true
inside {n} {len} {s} l h e two = le-leb (l + 2) (s + 1) (omega arith)

pub behind : {n len s : ℕ} (l : ℕ) → n < l + len - 1 → n ≡ s → len ≡ 2 → leb (l + 2) (s + 1) ≡ false
behind {n} {len} {s} l h e two = lt-leb (l + 2) (s + 1) (omega arith)

-- an instruction of one word that was fetched is in the table
pub here : {n l s : ℕ} → l ≤ n → n ≡ s → leb (l + 1) (s + 1) ≡ true
here {n} {l} {s} h e = le-leb (l + 1) (s + 1) (omega arith)

-- 0 is no instruction
pub nothing : (rs t k a : List ℕ) (room : ℕ) (q : Bool) (r : Registers) → Next.Outside ≡ fetched_of rs t k a room q 0 r
unfolding fetched_of act_of lengths length_of
nothing rs t k a room q r = split (leb (r.location + 0) (size t + 1)) (λ u. rw u) (λ u. rw u)

-- a number above 13 is an operation's, or none at all
pub above : (rs t k a : List ℕ) (room : ℕ) (q : Bool) (i : ℕ) (r : Registers) → (i < 14 → ⊥) → operate_of room q a i r ≡ fetched_of rs t k a room q i r
unfolding fetched_of
above rs t k a room q i r h = split (ltb i 14) (λ y. absurd (h (ltb-true i 14 y))) (λ y. rw y)
