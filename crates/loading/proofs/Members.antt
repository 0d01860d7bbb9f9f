-- Laws of `member`, and of the locations that a table has.
use mathlib.Core.Bool.{Bool, true, false}
use mathlib.Core.List.{List, [], ◌∷◌, ◌++◌}
use mathlib.Core.Logic.{◌⊎◌, inl, inr}
use mathlib.Core.Option.{Option, none, some}
use mathlib.Core.Path.{◌≡◌, refl, sym}
use Prim.Native.Nat.{ℕ, zero, suc, ◌≤◌}
use native.Mathlib.Omega.{arith}
use lib.Dec.{eqb}
use lib.ListN.{length, get_elem?}
use borrow.Author.Tests.{eqb-true, eq-eqb}
use Rattle.base.specs.Bools.{never}
use Rattle.std.specs.Prelude.{if◌then◌else◌}
use Rattle.base.specs.Common.{member, given}
use Rattle.machine.specs.Decode.{fetch, invalid, decode, decode_at}

pub member-head : (m : ℕ) (ms : List ℕ) → member m (m ∷ ms) ≡ true
member-head m ms = rw (eq-eqb m m refl)

pub member-here : (m x : ℕ) (ms : List ℕ) → m ≡ x → member m (x ∷ ms) ≡ true
member-here m x ms e = rw (eq-eqb m x e)

pub member-tail : (m x : ℕ) (ms : List ℕ) → member m ms ≡ true → member m (x ∷ ms) ≡ true
member-tail m x ms h = go (eqb m x)
  where
    go : (t : Bool) → (if t then true else member m ms) ≡ true
    go true = refl
    go false = h

pub member-cons : (m x : ℕ) (ms : List ℕ) → member m (x ∷ ms) ≡ true → (m ≡ x) ⊎ (member m ms ≡ true)
member-cons m x ms h = go (eqb m x) refl h
  where
    go : (t : Bool) → eqb m x ≡ t → (if t then true else member m ms) ≡ true → (m ≡ x) ⊎ (member m ms ≡ true)
    go true e d = inl (eqb-true m x e)
    go false e d = inr d

pub member-left : (m : ℕ) (a b : List ℕ) → member m a ≡ true → member m (a ++ b) ≡ true
member-left m [] b h = never h
member-left m (x ∷ a) b h = elim (member-cons m x a h) [ inl e ↦ member-here m x (a ++ b) e | inr t ↦ member-tail m x (a ++ b) (member-left m a b t) ]

pub member_right : (m : ℕ) (a b : List ℕ) → member m b ≡ true → member m (a ++ b) ≡ true
member_right m [] b h = h
member_right m (x ∷ a) b h = member-tail m x (a ++ b) (member_right m a b h)

pub member-either : (m : ℕ) (a b : List ℕ) → member m (a ++ b) ≡ true → (member m a ≡ true) ⊎ (member m b ≡ true)
member-either m [] b h = inr h
member-either m (x ∷ a) b h = elim (member-cons m x (a ++ b) h) [
  | inl e ↦ inl (member-here m x a e)
  | inr t ↦ elim (member-either m a b t) [ inl u ↦ inl (member-tail m x a u) | inr u ↦ inr u ]
]

-- a location that the table has

pub fetch-inside : (T : List ℕ) (l : ℕ) → given (fetch T l) ≡ true → (1 ≤ l) × (l ≤ length T)
unfolding fetch
fetch-inside T zero h = never h
fetch-inside T (suc i) h = go T i h
  where
    go : (S : List ℕ) (k : ℕ) → given (get_elem? S k) ≡ true → (1 ≤ suc k) × (suc k ≤ length S)
    go [] k e = never e
    go (x ∷ S) zero e = (omega arith, omega arith)
    go (x ∷ S) (suc k) e = let r = go S k e in (omega arith, omega (arith, r.1))

pub inside-fetch : (T : List ℕ) (l : ℕ) → 1 ≤ l → l ≤ length T → given (fetch T l) ≡ true
unfolding fetch
inside-fetch T zero h u = absurd (omega arith)
inside-fetch T (suc i) h u = go T i u
  where
    go : (S : List ℕ) (k : ℕ) → suc k ≤ length S → given (get_elem? S k) ≡ true
    go [] k e = absurd (omega arith)
    go (x ∷ S) zero e = refl
    go (x ∷ S) (suc k) e = go S k (omega arith)

-- a location outside the table has no instruction
pub outside-invalid : (T : List ℕ) (l : ℕ) → given (fetch T l) ≡ false → decode T l ≡ invalid
unfolding decode decode_at
outside-invalid T l h = go (fetch T l) h
  where
    go : (o : Option ℕ) → given o ≡ false → decode_at l o (fetch T (suc l)) ≡ invalid
    go none e = refl
    go (some x) e = never (sym e)
