-- What a turn of the pass makes of the next cell, and what the cells appended come to.
use mathlib.Core.List.{List, [], ◌∷◌}
use mathlib.Core.Path.{◌≡◌, refl}
use native.Mathlib.Omega.{arith}
use Prim.Native.Nat.{ℕ, zero, suc, ◌+◌, ◌-◌, ◌≤◌, min}
use lib.ListN.{length}
use Rattle.resolver.proofs.Appending.{appends-none, appends-then}
use Rattle.resolver.specs.Resolved.{Appends}
use Rattle.linker.specs.Close.{behind, operand, places_after, close_from}

-- A turn

module _ (low : ℕ → ℕ) where
  pub first-turn : (f l x b : ℕ) (places cells : List ℕ) → l ≡ 0 → b ≡ behind x → close_from low f l places (x ∷ cells) ≡ x ∷ close_from low x b places cells
  unfolding close_from
  first-turn f zero x b places cells e h = rw h
  first-turn f (suc l) x b places cells e h = absurd (omega arith)

  pub operand-turn : (f l x y : ℕ) (places more cells : List ℕ) → (l ≡ 0 → ⊥) → y ≡ operand low f places x → more ≡ places_after low f places
      → close_from low f l places (x ∷ cells) ≡ y ∷ close_from low f (l - 1) more cells
  unfolding close_from
  operand-turn f zero x y places more cells n h k = absurd (n refl)
  operand-turn f (suc l) x y places more cells n h k = let z : suc l - 1 ≡ l = omega arith in rw (h, k, z)

pub starts : (cs : List ℕ) (from n : ℕ) → n ≡ min from (length cs + 1) → Appends cs from [] cs n
starts cs from n e = record { cells = refl; count = omega arith }

pub appends-next : {cs cs₁ cs₂ xs ys : List ℕ} {c c₁ c₂ x : ℕ} → xs ≡ x ∷ ys → Appends cs c (x ∷ []) cs₁ c₁ → Appends cs₁ c₁ ys cs₂ c₂ → Appends cs c xs cs₂ c₂
appends-next e h g = rw e (appends-then h g)

pub appends-nothing : (cs xs : List ℕ) (c : ℕ) → xs ≡ [] → c ≤ suc (length cs) → Appends cs c xs cs c
appends-nothing cs xs c e h = rw e (appends-none cs c h)
