-- A visit, by what stands at the location.
use mathlib.Core.Bool.{Bool, false}
use mathlib.Core.List.{List}
use mathlib.Core.Option.{some}
use mathlib.Core.Path.{◌≡◌, refl, sym, ap, ◌∙◌}
use native.Mathlib.Omega.{arith}
use Prim.Native.Nat.{ℕ, ◌-◌, ◌≤◌, ◌<◌}
use lib.ListN.{length, get_or}
use Rattle.base.specs.Common.{given}
use Rattle.loader.proofs.Laws.{table-fetch}
use Rattle.loader.proofs.Visits.{fetch-past}
use Rattle.loading.proofs.Members.{outside-invalid}
use Rattle.machine.specs.Bytes.{words_of, table_of}
use Rattle.machine.specs.Decode.{fetch, Instruction, invalid, decode}
use Rattle.meter.specs.Makes.{Comes}
use Rattle.meter.specs.Shaped.{InRule}
use Rattle.meter.specs.Steps.{flag_of, row_of, Kept, Here, Steps, MakesAt, AskedAt, asked_at}
use Rattle.meter.proofs.Laws.{not-nothing}
use Rattle.meter.proofs.Raising.{stays, covers}
use Rattle.meter.proofs.Stands.{comes-at}

pub outside_low : (T : List ℕ) (l : ℕ) → l ≡ 0 → decode T l ≡ invalid
unfolding fetch
outside_low T l e = outside-invalid T l (rw e refl)

pub outside_high : (T : List ℕ) (l : ℕ) → length T < l → decode T l ≡ invalid
outside_high T l h = outside-invalid T l (ap given (fetch-past T l h))

pub here-word : (s : List ℕ) (l : ℕ) {w : ℕ} → (l ≡ 0 → ⊥) → l ≤ length (table_of s) → w ≡ get_or (words_of s) (l - 1) 0 → fetch (table_of s) l ≡ some w
here-word s l n h e = table-fetch s l (not-nothing n) h ∙ ap some (sym e)

module _ {T S called : List ℕ} {r l : ℕ} {rows : List ℕ} (kp : Kept T S called rows) where
  pub visit-invalid : decode T l ≡ invalid → Steps T S (AskedAt T S called r l) called rows rows false
  visit-invalid d = stays kp (λ i v m. absurd (ask m))
    where
      nothing : {k i v : ℕ} → MakesAt T S called r l k invalid rows i v → ⊥
      nothing m = elim m [ ]

      ask : {i v : ℕ} → AskedAt T S called r l rows i v → ⊥
      ask (asked_at z m) = nothing (rw d at m)

  pub visit-unreached : {n : ℕ} → n ≡ row_of rows l → n ≡ 0 → Steps T S (AskedAt T S called r l) called rows rows false
  visit-unreached e f = stays kp (λ i v m. absurd (ask m))
    where
      ask : {i v : ℕ} → AskedAt T S called r l rows i v → ⊥
      ask (asked_at z m) = omega arith

  pub visit-made : {n : ℕ} {d : Instruction} {after : List ℕ} {b : Bool} → decode T l ≡ d → n ≡ row_of rows l → Steps T S (MakesAt T S called r l n d) called rows after b → Steps T S (AskedAt T S called r l) called rows after b
  visit-made {n} {d} f e x = covers (λ i v m. ask m) x
    where
      ask : {i v : ℕ} → AskedAt T S called r l rows i v → MakesAt T S called r l n d rows i v
      ask (asked_at z m) = rw (f, ← e) at m

  pub visit-here : {n : ℕ} → r < length S → InRule T S r l → l ≤ length T → n ≡ row_of rows l → (n ≡ 0 → ⊥) → Here T S called r l n
  visit-here {n} hr i h e f =
      let p : 0 < row_of rows l = omega (arith, not-nothing f) in
      let c = comes-at kp.row l (omega (arith, kp.shaped.short)) p in
      let c₁ : Comes T S (flag_of called) l n = rw e c in
      record { is_rule = hr; in_rule = i; comes = c₁; small = omega (arith, kp.small l) }
