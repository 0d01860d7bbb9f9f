-- The rules' starts are begun.
use mathlib.Core.Bool.{Bool}
use mathlib.Core.List.{List}
use mathlib.Core.Path.{◌≡◌}
use native.Mathlib.Decide.{dec_lt}
use native.Mathlib.Omega.{arith}
use Prim.Native.Nat.{ℕ, ◌+◌, ◌≤◌, ◌<◌}
use lib.ListN.{length}
use Rattle.figure.specs.Figure.{at_start}
use Rattle.meter.specs.Makes.{half}
use Rattle.meter.specs.Shaped.{start_of}
use Rattle.meter.specs.Steps.{row_of, Kept, Steps, Only, Raised, Begun}
use Rattle.meter.proofs.Stands.{start-stands}

pub record BegunUpto (T S called : List ℕ) (r : ℕ) (after : List ℕ) : Type 0 where
  pub kept : Kept T S called after
  pub begun : (q : ℕ) → q < r → q < length S → 0 < row_of after (start_of S q)

pub begun_first : {T S called rows : List ℕ} → Kept T S called rows → BegunUpto T S called 0 rows
begun_first k = record { kept = k; begun = λ q h. absurd (omega arith) }

pub begun-next : {T S called : List ℕ} {r : ℕ} {mid after : List ℕ} {b : Bool} → BegunUpto T S called r mid → r < length S → Raised (start_of S r) 1 mid after b → BegunUpto T S called (r + 1) after
begun-next {T} {S} {called} {r} {mid} {after} {b} u h x =
    let z = x.steps u.kept (λ i p. start-stands u.kept.shaped h) in
    record { kept = z.kept; begun = λ q l m. each z q l m }
  where
    each : Steps T S (Only (start_of S r) 1) called mid after b → (q : ℕ) → q < r + 1 → q < length S → 0 < row_of after (start_of S q)
    each z q l m = elim (dec_lt q r) [
      | yes y ↦ omega (arith, u.begun q y m, z.grows (start_of S q))
      | no y ↦ let e : q ≡ r = omega arith in rw e (here z)
    ]
      where
        here : Steps T S (Only (start_of S r) 1) called mid after b → 0 < row_of after (start_of S r)
        here z = let inside : start_of S r < half = omega (arith, (u.kept.shaped.inside h at_start).1, u.kept.shaped.short) in omega (arith, x.at_least (omega (arith, inside, u.kept.sized)) inside)

pub begun_all : {T S called : List ℕ} {r : ℕ} {after : List ℕ} → BegunUpto T S called r after → length S ≤ r → Begun T S called after
begun_all u h = record { kept = u.kept; begun = λ q l. u.begun q (omega arith) l }
