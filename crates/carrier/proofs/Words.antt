-- Laws of the flags of choice tables.
use mathlib.Core.Bool.{Bool, true, false, ◌||◌}
use mathlib.Core.List.{List, ◌∷◌}
use mathlib.Core.Path.{◌≡◌, refl, ◌∙◌}
use Prim.Native.Nat.{ℕ, ◌+◌, ◌<◌, ◌≤◌}
use native.Mathlib.Omega.{arith}
use lib.Dec.{eqb}
use lib.ListN.{length, get_or, set, length-set}
use lib.Seq.{get_or-set_same, get_or-set_other}
use borrow.Author.Tests.{eqb-true, eqb-false, ne_eqb}
use Rattle.base.specs.Bools.{never, split}
use Rattle.std.specs.Prelude.{if◌then◌else◌}
use Rattle.base.specs.Common.{member}
use Rattle.carry.specs.Scan.{Expects, instruction, operand, label, tables_after}
use Rattle.carrier.specs.Going.{announces, Announced, Tells}

-- nothing is told where no choice table is announced
pub tells-same : (flags : List ℕ) (o : ℕ) (e : Expects) (w : ℕ) → announces e ≡ false → Tells flags o e w flags
unfolding announces tables_after
tells-same flags o instruction w h = record { long = refl; told = λ ts l f. f }
tells-same flags o (operand i) w h = record { long = refl; told = λ ts l f. rw h f }
tells-same flags o (label n) w h = record { long = refl; told = λ ts l f. f }

-- the table of a choice at t is told
pub tells-table : (flags : List ℕ) (o : ℕ) (e : Expects) (w : ℕ) → announces e ≡ true → o + w < length flags → Tells flags o e w (set flags (o + w) 1)
unfolding announces tables_after
tells-table flags o instruction w c h = never c
tells-table flags o (label n) w c h = never c
tells-table flags o (operand i) w c h = record { long = length-set flags (o + w) 1; told = λ ts l f. rw c (record { flag = flag ts f }) }
  where
    flag : (ts : List ℕ) → Announced flags ts → (k : ℕ) → k < 4096 → get_or (set flags (o + w) 1) k 0 ≡ (if member k ((o + w) ∷ ts) then 1 else 0)
    flag ts f k l =
        split (eqb k (o + w))
        (λ t. rw (t, eqb-true k (o + w) t) (get_or-set_same flags (o + w) 1 0 h))
        (λ t. rw t (get_or-set_other flags (o + w) k 1 0 (λ z. eqb-false k (o + w) t z) ∙ f.flag k l))

-- one behind the last flag is no flag
pub tells-past : (flags : List ℕ) (o : ℕ) (e : Expects) (w : ℕ) → length flags ≤ o + w → Tells flags o e w flags
unfolding tables_after
tells-past flags o instruction w h = record { long = refl; told = λ ts l f. f }
tells-past flags o (label n) w h = record { long = refl; told = λ ts l f. f }
tells-past flags o (operand i) w h = record { long = refl; told = λ ts l f. by (eqb i 7 || eqb i 11) ts l f }
  where
    by : (t : Bool) (ts : List ℕ) → length flags ≡ 4096 → Announced flags ts → Announced flags (if t then (o + w) ∷ ts else ts)
    by true ts l f = record { flag = λ k m. rw (ne_eqb k (o + w) (λ z. omega (arith, z, h, l, m))) (f.flag k m) }
    by false ts l f = f
