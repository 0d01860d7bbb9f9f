-- Laws of the shared tests, and of numbers.
use mathlib.Core.Bool.{Bool, true, false, ◌&&◌, ◌||◌}
use mathlib.Core.List.{List, [], ◌∷◌, ◌++◌}
use mathlib.Core.Logic.{◌⊎◌, inl, inr}
use mathlib.Core.Path.{◌≡◌, refl, sym}
use Prim.Native.Nat.{ℕ, zero, suc, ◌+◌, ◌<◌, ◌≤◌}
use native.Mathlib.Numerals.{add-one}
use native.Mathlib.Omega.{arith}
use lib.Dec.{eqb, ltb}
use lib.Pointwise.{pointwise}
use lib.ListN.{length, get_or, drop, replicate, drop_of_length-le}
use lib.Seq.{drop-cons}
use borrow.Author.Tests.{eqb-true, eq-eqb, ne_eqb, ltb-true, ltb-false}
use Rattle.base.specs.Bools.{never, split}
use Rattle.std.specs.Prelude.{if◌then◌else◌}
use Rattle.base.specs.Common.{same, member}

pub neither : (a b : Bool) → (a || b) ≡ false → (a ≡ false) × (b ≡ false)
neither true b e = never (sym e)
neither false b e = (refl, e)

pub is_false : (b : Bool) → (b ≡ true → ⊥) → b ≡ false
is_false true h = absurd (h refl)
is_false false h = refl

pub above_zero : (n : ℕ) → (n ≡ 0 → ⊥) → 1 ≤ n
above_zero zero h = absurd (h refl)
above_zero (suc n) h = omega arith

pub lt-or-le : (a b : ℕ) → (a < b) ⊎ (b ≤ a)
lt-or-le a b = split (ltb a b) (λ e. inl (ltb-true a b e)) (λ e. inr (ltb-false a b e))

pub zeros-at : (n i : ℕ) → ◌≡◌ {A = ℕ} (get_or (replicate n 0) i 0) 0
zeros-at zero i = refl
zeros-at (suc n) zero = refl
zeros-at (suc n) (suc i) = zeros-at n i

pub member-append : (v : ℕ) (xs ys : List ℕ) → member v (xs ++ ys) ≡ (member v xs || member v ys)
member-append v [] ys = refl
member-append v (x ∷ xs) ys = go (eqb v x) (member-append v xs ys)
  where
    go : (b : Bool) → member v (xs ++ ys) ≡ (member v xs || member v ys) → (if b then true else member v (xs ++ ys)) ≡ ((if b then true else member v xs) || member v ys)
    go true e = refl
    go false e = e

-- The test of two lists

pub same_refl : (s : List ℕ) → same s s ≡ true
same_refl [] = refl
same_refl (x ∷ s) = rw (eq-eqb x x refl) (same_refl s)

pub same-eq : (a b : List ℕ) → same a b ≡ true → a ≡ b
same-eq [] [] e = refl
same-eq [] (y ∷ b) e = never e
same-eq (x ∷ a) [] e = never e
same-eq (x ∷ a) (y ∷ b) e =
    split (eqb x y)
    (λ t. let h = eqb-true x y t in let r = same-eq a b (rw t at e) in λ i. h i ∷ r i)
    (λ f. never (rw f at e))

-- a loop that compares them, from the place i on

pub same_next : (a b : List ℕ) (i : ℕ) → i < length a → i < length b → get_or a i 0 ≡ get_or b i 0 → same (drop i a) (drop i b) ≡ same (drop (i + 1) a) (drop (i + 1) b)
same_next a b i h k e = rw (add-one, drop-cons a i 0, drop-cons b i 0, eq-eqb (get_or a i 0) (get_or b i 0))

pub same_not : (a b : List ℕ) (i : ℕ) → i < length a → i < length b → (get_or a i 0 ≡ get_or b i 0 → ⊥) → same (drop i a) (drop i b) ≡ false
same_not a b i h k e = rw (drop-cons a i 0, drop-cons b i 0, ne_eqb (get_or a i 0) (get_or b i 0))

pub same_end : (a b : List ℕ) (i : ℕ) → length a ≤ i → length b ≤ i → same (drop i a) (drop i b) ≡ true
same_end a b i h k = rw (drop_of_length-le a h, drop_of_length-le b k)

-- what `==` answers at two slices of bytes
pub same_slices : (a b : List ℕ) → pointwise eqb a b ≡ same a b
same_slices [] [] = refl
same_slices [] (y ∷ b) = refl
same_slices (x ∷ a) [] = refl
same_slices (x ∷ a) (y ∷ b) = go (eqb x y) (same_slices a b)
  where
    go : (t : Bool) → pointwise eqb a b ≡ same a b → (t && pointwise eqb a b) ≡ (if t then same a b else false)
    go true e = e
    go false e = refl
