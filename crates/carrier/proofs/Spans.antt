-- Laws of the words of a rule in its table, for `same_rules`.
use mathlib.Core.Bool.{Bool, false}
use mathlib.Core.List.{List, []}
use mathlib.Core.Path.{◌≡◌, refl}
use Prim.Native.Nat.{ℕ, ◌+◌, ◌-◌, ◌*◌, ◌<◌, ◌≤◌}
use native.Mathlib.Omega.{arith}
use lib.ListN.{get_or}
use borrow.Author.Tests.{eq-eqb, ne_eqb}
use Rattle.carry.specs.Scan.{instruction, same_scan}
use Rattle.machine.specs.Bytes.{count, words_of}
use Rattle.symbols.specs.Search.{part}
use Rattle.carrier.specs.Held.{count_held, size_held, number_held, calls_held, end_held, Laid, words_held}

-- where a rule begins and ends, as the code has read it
pub record Bounds (sheet : List ℕ) (i p e : ℕ) : Type 0 where
  pub begin : p ≡ number_held sheet i 0
  pub end : e ≡ end_held sheet i

pub bounds : {sheet : List ℕ} {i p e : ℕ} → p ≡ get_or sheet (6 * i) 0 → e ≡ end_held sheet i → Bounds sheet i p e
unfolding number_held
bounds {i = i} d f = let z : 6 * i + 0 ≡ 6 * i = omega arith in record { begin = rw z d; end = f }

pub ordered : {sheet : List ℕ} {i p e : ℕ} (table : List ℕ) → Bounds sheet i p e → Laid sheet table → i < count_held sheet → (1 ≤ p) × (p ≤ e) × (e ≤ size_held sheet + 1)
ordered {i = i} table b l h = (omega (arith, b.begin, l.from i h), omega (arith, b.begin, b.end, l.onward i h), omega (arith, b.end, l.within i h))

module _ (a b old sheet new other : List ℕ) (i j : ℕ) where
  abbrev Words : Bool
  Words = words_held a b old sheet new other i j

  pub rules-apart : {p e q f : ℕ} → Bounds sheet i p e → Bounds other j q f → (f - q ≡ e - p → ⊥) → false ≡ Words
  unfolding words_held
  rules-apart x y n = rw (← x.begin, ← x.end, ← y.begin, ← y.end, ne_eqb _ _ n) refl

  pub rules-meet : {p e q f : ℕ} (r : Bool) → Bounds sheet i p e → Bounds other j q f → f - q ≡ e - p
      → r ≡ same_scan (calls_held old sheet new other) [] 0 instruction (part (words_of a) (p - 1) (e - p)) (part (words_of b) (q - 1) (e - p)) → r ≡ Words
  unfolding words_held
  rules-meet r x y n h = rw (← x.begin, ← x.end, ← y.begin, ← y.end, eq-eqb _ _ n) h

  pub spans_fit : {p e q f : ℕ} → Bounds sheet i p e → Bounds other j q f → f - q ≡ e - p → Laid sheet a → Laid other b → i < count_held sheet → j < count_held other
      → (p - 1 + (e - p) ≤ count a) × (q - 1 + (e - p) ≤ count b) × (e - p ≤ 4096) × (p - 1 ≤ 4096) × (q - 1 ≤ 4096) × (count_held sheet ≤ 128) × (count_held other ≤ 128)
  spans_fit x y n l k h m =
      let u = ordered a x l h in
      let v = ordered b y k m in (
        omega (arith, u.0, u.1, u.2, l.inside),
        omega (arith, v.0, v.1, v.2, k.inside, n),
        omega (arith, u.0, u.2, l.small),
        omega (arith, u.0, u.1, u.2, l.small),
        omega (arith, v.0, v.1, v.2, k.small),
        l.few,
        k.few,
      )
