-- Entries by place, and the searches over them.
use mathlib.Core.Bool.{Bool, true, false, cond}
use mathlib.Core.List.{List, [], ◌∷◌}
use mathlib.Core.Option.{none, some}
use mathlib.Core.Path.{◌≡◌, refl, sym, ap, ◌∙◌}
use Prim.Native.Nat.{ℕ, zero, suc, ◌+◌, ◌*◌, ◌/◌, ◌<◌, ◌≤◌}
use native.Mathlib.Numerals.{add-one}
use native.Mathlib.Omega.{arith}
use lib.ListN.{length, get_or, drop, drop_of_length-le}
use borrow.Author.Tests.{lt-ltb, le-ltb}
use Rattle.filtering.specs.Filter.{entries, crossed, lowest}
use Rattle.filter.specs.Working.{entry_at, given}
use Rattle.base.specs.Bools.{never}
use Rattle.std.specs.Prelude.{None, Some, position, if◌then◌else◌}
use Rattle.std.specs.List.{position_from}
use Rattle.std.proofs.lemmas.Iterator.Adapters.{position_from-zero}

pub length-entries : (s : List ℕ) → length (entries s) ≡ length s / 4
unfolding entries
length-entries [] = refl
length-entries (a ∷ []) = refl
length-entries (a ∷ b ∷ []) = refl
length-entries (a ∷ b ∷ h ∷ []) = refl
length-entries (a ∷ b ∷ h ∷ l ∷ s) = let r = length-entries s in omega arith

pub drop-entries : (s : List ℕ) (i : ℕ) → i < length s / 4 → drop i (entries s) ≡ entry_at s i ∷ drop (i + 1) (entries s)
unfolding entries entry_at
drop-entries [] i h = absurd (omega arith)
drop-entries (a ∷ []) i h = absurd (omega arith)
drop-entries (a ∷ b ∷ []) i h = absurd (omega arith)
drop-entries (a ∷ b ∷ c ∷ []) i h = absurd (omega arith)
drop-entries (a ∷ b ∷ c ∷ d ∷ s) zero h = refl
drop-entries (a ∷ b ∷ c ∷ d ∷ s) (suc i) h =
    let e₀ : 4 * suc i ≡ suc (suc (suc (suc (4 * i)))) = omega arith in
    let e₁ : 4 * suc i + 1 ≡ suc (suc (suc (suc (4 * i + 1)))) = omega arith in
    let e₂ : 4 * suc i + 2 ≡ suc (suc (suc (suc (4 * i + 2)))) = omega arith in
    let e₃ : 4 * suc i + 3 ≡ suc (suc (suc (suc (4 * i + 3)))) = omega arith in
    let f : suc i + 1 ≡ suc (i + 1) = omega arith in
    drop-entries s i (omega arith) ∙ rw (e₁, e₂, e₃, e₀, f)

pub drop-none : (s : List ℕ) (i : ℕ) → length s / 4 ≤ i → drop i (entries s) ≡ []
drop-none s i h = let l = length-entries s in let u : length (entries s) ≤ i = omega arith in drop_of_length-le (entries s) u

-- Crossed entries

module _ (s : List ℕ) where
  pub crossed-on : (i : ℕ) → i < length s / 4 → get_or s (4 * i) 0 ≤ get_or s (4 * i + 1) 0 → crossed i (drop i (entries s)) ≡ crossed 0 (entries s)
      → crossed (i + 1) (drop (i + 1) (entries s)) ≡ crossed 0 (entries s)
  unfolding crossed entry_at
  crossed-on i h u c =
      let e : i + 1 ≡ suc i = add-one i in
      let z = le-ltb (get_or s (4 * i + 1) 0) (get_or s (4 * i) 0) u in
      ap (λ (k : ℕ). crossed k (drop (i + 1) (entries s))) e ∙ (rw (drop-entries s i h, z) at c)

  pub crossed-here : (i : ℕ) → i < length s / 4 → get_or s (4 * i + 1) 0 < get_or s (4 * i) 0 → crossed i (drop i (entries s)) ≡ crossed 0 (entries s)
      → Some i ≡ given (crossed 0 (entries s))
  unfolding crossed entry_at given
  crossed-here i h u c =
      let z = lt-ltb (get_or s (4 * i + 1) 0) (get_or s (4 * i) 0) u in
      let d : some i ≡ crossed 0 (entries s) = rw (drop-entries s i h, z) at c in
      ap given d

  pub crossed-end : (i : ℕ) → length s / 4 ≤ i → crossed i (drop i (entries s)) ≡ crossed 0 (entries s) → None ≡ given (crossed 0 (entries s))
  unfolding crossed given
  crossed-end i h c = let d : none ≡ crossed 0 (entries s) = rw (drop-none s i h) at c in ap given d

-- The lowest byte that passes a test

lowest-from : (p f : ℕ → Bool) (xs : List ℕ) (n b : ℕ) → n ≡ length xs → ((i : ℕ) → i < n → f (b + i) ≡ p (get_or xs i 0)) → position_from p b xs ≡ given (lowest f n b)
unfolding lowest given
lowest-from p f [] zero b e h = refl
lowest-from p f [] (suc n) b e h = absurd (omega (arith, e))
lowest-from p f (x ∷ xs) zero b e h = absurd (omega (arith, e))
lowest-from p f (x ∷ xs) (suc n) b e h =
    let here : f b ≡ p x = ap f (omega arith) ∙ h 0 (omega arith) in
    let later = lowest-from p f xs n (suc b) (omega arith) (λ i u. ap f (omega arith) ∙ h (suc i) (omega arith)) in
    go (p x) (f b) here (ap (λ (j : ℕ). position_from p j xs) (add-one b) ∙ later)
  where
    go : (t u : Bool) → u ≡ t → position_from p (b + 1) xs ≡ given (lowest f n (suc b)) → cond t (Some b) (position_from p (b + 1) xs) ≡ given (if u then some b else lowest f n (suc b))
    go true true e l = refl
    go false false e l = l
    go true false e l = never e
    go false true e l = never (sym e)

-- where a byte's count passes a test: the place of the first that does
pub position-is : (p : ℕ → Bool) (held : List ℕ) → length held ≡ 256 → position p held ≡ given (lowest (λ b. p (get_or held b 0)) 256 0)
position-is p held e = position_from-zero p held ∙ lowest-from p (λ b. p (get_or held b 0)) held 256 0 (sym e) (λ i u. ap (λ (j : ℕ). p (get_or held j 0)) (omega arith))

-- tests that agree find the same
pub low_same : (f g : ℕ → Bool) (n b : ℕ) → ((x : ℕ) → x < b + n → f x ≡ g x) → lowest f n b ≡ lowest g n b
unfolding lowest
low_same f g zero b h = refl
low_same f g (suc n) b h = rw (h b (omega arith), low_same f g n (suc b) (λ x u. h x (omega arith)))
