-- What the answers of a search for a rule and of a place tell.
use mathlib.Core.Path.{◌≡◌, sym, ap, ◌∙◌, subst}
use Prim.Native.Nat.{ℕ, ◌<◌}
use native.Mathlib.Omega.{arith}
use Rattle.std.specs.Prelude.{Option, Some, None}
use Rattle.std.specs.Option.{unwrap_or}
use Rattle.carrier.specs.Places.{IsRule, IsPlace}

pub no-rule : {r : Option ℕ} {i : ℕ} → IsRule r i → r ≡ None → i ≡ 128
no-rule {r} {i} h e = sym h.is ∙ ap (λ (o : Option ℕ). unwrap_or o 128) e

pub a-rule : {r : Option ℕ} {i k : ℕ} → IsRule r i → r ≡ Some k → (k ≡ i) × (k < 128)
a-rule {r} {i} {k} h e = go r e h
  where
    go : (o : Option ℕ) → o ≡ Some k → IsRule o i → (k ≡ i) × (k < 128)
    go o d x = let y : IsRule (Some k) i = subst (λ (p : Option ℕ). IsRule p i) d x in (y.is, y.low)

pub below : {k : ℕ} → k < 128 → k ≡ 128 → ⊥
below h e = omega (arith, h, e)

pub no-place : {l : ℕ} → 0 ≡ l → IsPlace None l
no-place e = record { is = e; some = tt; low = tt }

pub placed-none : {r : Option ℕ} {l : ℕ} → IsPlace r l → r ≡ None → 0 ≡ l
placed-none h e = sym (ap (λ (o : Option ℕ). unwrap_or o 0) e) ∙ h.is

pub placed-some : {r : Option ℕ} {l k : ℕ} → IsPlace r l → r ≡ Some k → (k ≡ l) × (0 < k) × (k < 65536)
placed-some {r} {l} {k} h e = let y : IsPlace (Some k) l = subst (λ (p : Option ℕ). IsPlace p l) e h in (y.is, y.some, y.low)
