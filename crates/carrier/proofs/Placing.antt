-- Laws of the place that a location becomes, for `carry_place`.
use mathlib.Core.Bool.{Bool, true, false, ◌&&◌}
use mathlib.Core.List.{List}
use mathlib.Core.Path.{◌≡◌, refl, sym, ◌∙◌}
use Prim.Native.Nat.{ℕ, zero, suc, ◌+◌, ◌-◌, ◌*◌, ◌<◌, ◌≤◌}
use native.Mathlib.Omega.{arith}
use lib.Dec.{leb}
use lib.ListN.{get_or}
use borrow.Author.Tests.{leb-true, ne_eqb}
use Rattle.base.specs.Bools.{and}
use Rattle.std.specs.Prelude.{if◌then◌else◌}
use Rattle.carry.specs.Carry.{same_name}
use Rattle.carrier.specs.Held.{count_held, size_held, number_held, name_held, last_held, rule_held, find_held, Laid, words_held, place_held}

-- a rule that was found for a location begins at it or before
pub record Lies (sheet : List ℕ) (l i : ℕ) : Type 0 where
  pub low : i < count_held sheet
  pub begins : get_or sheet (6 * i) 0 ≤ l
  pub inside : l ≤ size_held sheet

last-lies : (sheet : List ℕ) (n l : ℕ) → (last_held sheet n l ≡ 128 → ⊥) → (last_held sheet n l < n) × (number_held sheet (last_held sheet n l) 0 ≤ l)
unfolding last_held
last-lies sheet zero l h = absurd (h refl)
last-lies sheet (suc n) l h = go (leb (number_held sheet n 0) l) refl h (λ k. last-lies sheet n l k)
  where
    go : (t : Bool) → leb (number_held sheet n 0) l ≡ t → ((if t then n else last_held sheet n l) ≡ 128 → ⊥) → ((last_held sheet n l ≡ 128 → ⊥) → (last_held sheet n l < n) × (number_held sheet (last_held sheet n l) 0 ≤ l))
        → ((if t then n else last_held sheet n l) < suc n) × (number_held sheet (if t then n else last_held sheet n l) 0 ≤ l)
    go true e k ih = (omega arith, leb-true (number_held sheet n 0) l e)
    go false e k ih = let x = ih k in (omega (arith, x.0), x.1)

pub rule-lies : (sheet : List ℕ) (l i : ℕ) → i ≡ rule_held sheet l → (i ≡ 128 → ⊥) → Lies sheet l i
unfolding rule_held number_held
rule-lies sheet l i e n = go (leb 1 l && leb l (size_held sheet)) refl e
  where
    go : (t : Bool) → (leb 1 l && leb l (size_held sheet)) ≡ t → i ≡ (if t then last_held sheet (count_held sheet) l else 128) → Lies sheet l i
    go true f d =
        let x = last-lies sheet (count_held sheet) l (λ z. n (d ∙ z)) in
        let y = and (leb 1 l) (leb l (size_held sheet)) f in
        let z : 6 * i + 0 ≡ 6 * i = omega arith in
        let w : get_or sheet (6 * i + 0) 0 ≤ l = rw d x.1 in
        record { low = omega (arith, d, x.0); begins = rw z at w; inside = leb-true l (size_held sheet) y.1 }
    go false f d = absurd (n d)

pub find-lies : (old sheet : List ℕ) (i : ℕ) (new other : List ℕ) (n k : ℕ) → (find_held old sheet i new other n k ≡ 128 → ⊥) → find_held old sheet i new other n k < n + k
unfolding find_held
find-lies old sheet i new other zero k h = absurd (h refl)
find-lies old sheet i new other (suc n) k h = go (same_name (name_held old sheet i) (name_held new other k)) h (λ m. find-lies old sheet i new other n (suc k) m)
  where
    go : (t : Bool) → ((if t then k else find_held old sheet i new other n (suc k)) ≡ 128 → ⊥) → ((find_held old sheet i new other n (suc k) ≡ 128 → ⊥) → find_held old sheet i new other n (suc k) < n + suc k)
        → (if t then k else find_held old sheet i new other n (suc k)) < suc n + k
    go true m ih = omega arith
    go false m ih = let x = ih m in omega (arith, x)

pub named-low : (old sheet : List ℕ) (i : ℕ) (new other : List ℕ) (n j : ℕ) → j ≡ find_held old sheet i new other n 0 → (j ≡ 128 → ⊥) → j < n
named-low old sheet i new other n j e h = let x = find-lies old sheet i new other n 0 (λ z. h (e ∙ z)) in omega (arith, x, e)

-- a rule begins at a location
pub place-from : {b other : List ℕ} {j q : ℕ} → Laid other b → j < count_held other → q ≡ get_or other (6 * j) 0 → 0 < q
unfolding number_held
place-from {b} {other} {j} {q} y k e =
    let z : 6 * j + 0 ≡ 6 * j = omega arith in
    let f : q ≡ get_or other (6 * j + 0) 0 = rw z e in
    omega (arith, f, y.from j k)

-- the place is a location of some table
pub place-small : (a b sheet other : List ℕ) (l i j p q : ℕ) → Laid sheet a → Laid other b → Lies sheet l i → j < count_held other → q ≡ get_or other (6 * j) 0 → q + (l - p) < 65536
unfolding number_held
place-small a b sheet other l i j p q x y h k e =
    let z : 6 * j + 0 ≡ 6 * j = omega arith in
    let f : q ≡ get_or other (6 * j + 0) 0 = rw z e in
    omega (arith, f, y.onward j k, y.within j k, y.small, x.small, h.inside)

module _ (a b old sheet new other : List ℕ) (l : ℕ) where
  abbrev At : ℕ
  At = place_held a b old sheet new other l

  pub place-nowhere : (i : ℕ) → i ≡ rule_held sheet l → i ≡ 128 → 0 ≡ At
  unfolding place_held
  place-nowhere i e z = rw (sym e ∙ z) refl

  pub place-gone : (i j : ℕ) → i ≡ rule_held sheet l → (i ≡ 128 → ⊥) → j ≡ find_held old sheet i new other (count_held other) 0 → j ≡ 128 → 0 ≡ At
  unfolding place_held
  place-gone i j e n f z = rw (← e, ne_eqb i 128 n, sym f ∙ z) refl

  pub place-changed : (i j : ℕ) (r : Bool) → i ≡ rule_held sheet l → (i ≡ 128 → ⊥) → j ≡ find_held old sheet i new other (count_held other) 0 → (j ≡ 128 → ⊥)
      → r ≡ words_held a b old sheet new other i j → r ≡ false → 0 ≡ At
  unfolding place_held
  place-changed i j r e n f m h t = rw (← e, ← f, ne_eqb i 128 n, ne_eqb j 128 m, sym h ∙ t) refl

  pub place_kept : (i j p q : ℕ) (r : Bool) → i ≡ rule_held sheet l → (i ≡ 128 → ⊥) → j ≡ find_held old sheet i new other (count_held other) 0 → (j ≡ 128 → ⊥)
      → r ≡ words_held a b old sheet new other i j → r ≡ true → p ≡ get_or sheet (6 * i) 0 → q ≡ get_or other (6 * j) 0 → q + (l - p) ≡ At
  unfolding place_held number_held
  place_kept i j p q r e n f m h t x y =
      let z : 6 * i + 0 ≡ 6 * i = omega arith in
      let w : 6 * j + 0 ≡ 6 * j = omega arith in
      rw (← e, ← f, ne_eqb i 128 n, ne_eqb j 128 m, sym h ∙ t, z, w, ← x, ← y) refl
