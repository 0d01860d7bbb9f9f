-- The greatest number of the second half is the figure.
use mathlib.Core.List.{List, [], ◌∷◌, ◌++◌, append-nil}
use mathlib.Core.Option.{none}
use mathlib.Core.Path.{◌≡◌, refl, sym, ap, ◌∙◌}
use native.Mathlib.Decide.{dec_lt}
use native.Mathlib.Omega.{arith}
use Prim.Native.Nat.{ℕ, ◌+◌, ◌≤◌, ◌<◌, max}
use lib.ListN.{length, get_or, set, drop, replicate, length-set, length-replicate, drop_of_length-le, get_or-eq_default}
use borrow.Author.Fill.{fill_none, fill_more}
use Rattle.base.proofs.Laws.{zeros-at}
use Rattle.figure.specs.Figure.{Reached, at_start, End, Quiet, Bounds, Figure, Long}
use Rattle.meter.specs.Found.{Starts, starts, Found}
use Rattle.meter.specs.Makes.{over_at, back_at, half, cap, Closed, Origin, the_start, any_place, Ends, Sound, Stands, stands_place, stands_over, stands_back}
use Rattle.meter.specs.Shaped.{start_of, Shaped}
use Rattle.meter.specs.Steps.{flag_of, row_of, called_of, Kept, asked_at, asked_from, Greatest, Begun, Settled}
use Rattle.meter.proofs.Bounds.{Most, bounds}

-- The greatest number

pub record GreatestUpto (rows : List ℕ) (from i q : ℕ) : Type 0 where
  pub most : (j : ℕ) → from ≤ j → j < i → get_or rows j 0 ≤ q
  pub attained : 0 < q → (j : ℕ) × (from ≤ j) × (j < length rows) × (get_or rows j 0 ≡ q)
  pub beyond : from ≤ i

pub greatest-first : (rows : List ℕ) (from : ℕ) → GreatestUpto rows from from 0
greatest-first rows from = record { most = λ j h l. absurd (omega arith); attained = λ h. absurd (omega arith); beyond = omega arith }

module _ {rows : List ℕ} {from i q v : ℕ} (u : GreatestUpto rows from i q) (e : v ≡ get_or rows i 0) (b : i < length rows) where
  most-next : {m : ℕ} → q ≤ m → v ≤ m → (j : ℕ) → from ≤ j → j < i + 1 → get_or rows j 0 ≤ m
  most-next h z j l y = elim (dec_lt j i) [
    | yes w ↦ omega (arith, u.most j l w)
    | no w ↦ let f : j ≡ i = omega arith in rw f (omega arith)
  ]

  greatest-more : {m : ℕ} → q < v → m ≡ v → GreatestUpto rows from (i + 1) m
  greatest-more h f = rw f (record { most = most-next (omega arith) (omega arith); attained = λ z. (i, u.beyond, b, sym e); beyond = omega (arith, u.beyond) })

  greatest-same : {m : ℕ} → v ≤ q → m ≡ q → GreatestUpto rows from (i + 1) m
  greatest-same h f = rw f (record { most = most-next (omega arith) h; attained = u.attained; beyond = omega (arith, u.beyond) })

  pub greatest-max : {m : ℕ} → m ≡ max q v → GreatestUpto rows from (i + 1) m
  greatest-max f = elim (dec_lt q v) [ yes h ↦ greatest-more h (omega (arith, f)) | no h ↦ greatest-same (omega arith) (omega (arith, f)) ]

pub greatest-all : {rows : List ℕ} {from i q : ℕ} → GreatestUpto rows from i q → length rows ≤ i → Greatest rows from q
greatest-all {rows} {from} {i} {q} u h = record { most = λ j l. most j l; attained = u.attained }
  where
    most : (j : ℕ) → from ≤ j → get_or rows j 0 ≤ q
    most j l = elim (dec_lt j i) [
      | yes y ↦ u.most j l y
      | no y ↦ omega (arith, get_or-eq_default rows 0 {n = j} (omega arith))
    ]

-- Numbers that are cleared

pub record ClearedUpto (n : ℕ) (before : List ℕ) (i : ℕ) (rows : List ℕ) : Type 0 where
  pub upto : i ≤ n
  pub before-sized : length before ≡ n
  pub sized : length rows ≡ n
  pub is : rows ≡ replicate i 0 ++ drop i before

pub cleared-first : {n : ℕ} {rows : List ℕ} → length rows ≡ n → ClearedUpto n rows 0 rows
cleared-first {rows = rows} h = record { upto = omega arith; before-sized = h; sized = h; is = fill_none rows 0 }

pub cleared-next : {n i : ℕ} {before rows : List ℕ} → ClearedUpto n before i rows → i < n → ClearedUpto n before (i + 1) (set rows i 0)
cleared-next {i = i} {before = before} {rows = rows} u h = record {
  upto = omega arith;
  before-sized = u.before-sized;
  sized = length-set rows i 0 ∙ u.sized;
  is = ap (λ (l : List ℕ). set l i 0) u.is ∙ fill_more i 0 before (omega (arith, u.before-sized));
}

pub cleared-all : {n i : ℕ} {before rows : List ℕ} → ClearedUpto n before i rows → n ≤ i → rows ≡ replicate n 0
cleared-all {n} {i} {before} {rows} u h =
    let e : i ≡ n = omega (arith, u.upto) in
    let z : rows ≡ replicate n 0 ++ drop n before = rw e at u.is in
    z ∙ ap (λ (l : List ℕ). replicate n 0 ++ l) (drop_of_length-le before {i = n} (omega (arith, u.before-sized))) ∙ append-nil (replicate n 0)

none-at : {rows : List ℕ} → rows ≡ replicate 4353 0 → (i : ℕ) → get_or rows i 0 ≡ 0
none-at e i = ap (λ (l : List ℕ). get_or l i 0) e ∙ zeros-at 4353 i

module _ {T S : List ℕ} where
  no-numbers : {row : ℕ → ℕ} {flag : ℕ} → ((i : ℕ) → i < half → row i ≡ 0) → Sound T S row flag
  no-numbers f = record { stands = λ i h p. absurd (omega (arith, f i h)) }

  pub cleared-kept : {empty rows : List ℕ} → Shaped T S → empty ≡ [] → rows ≡ replicate 4353 0 → Kept T S empty rows
  unfolding called_of
  cleared-kept {rows = rows} sh n e = rw n (record {
    sized = ap length e ∙ length-replicate {A = ℕ} 4353 0;
    shaped = sh;
    small = λ i. omega (arith, none-at e i);
    called_small = λ i. omega (arith, none-at e i);
    first = no-numbers (λ i h. none-at e i);
    row = no-numbers (λ i h. none-at e i);
  })

  -- the second half has no numbers yet, and the first is settled
  pub second-kept : {empty mid called lent rows : List ℕ} → empty ≡ [] → lent ≡ called → rows ≡ replicate 4353 0 → Settled T S empty mid called → Kept T S lent rows
  unfolding flag_of called_of
  second-kept {mid = mid} {called} {rows = rows} n l e s = let z : Settled T S [] mid called = rw n at s in rw l (go called z)
    where
      go : (called : List ℕ) → Settled T S [] mid called → Kept T S called rows
      go [] z = absurd (omega (arith, z.kept.sized))
      go (c ∷ cs) z = record {
        sized = ap length e ∙ length-replicate {A = ℕ} 4353 0;
        shaped = z.kept.shaped;
        small = λ i. omega (arith, none-at e i);
        called_small = z.kept.small;
        first = z.kept.row;
        row = no-numbers (λ i h. none-at e i);
      }

-- Nothing is left to be raised

module _ {T S : List ℕ} where
  closed-half : {called mid after : List ℕ} → Begun T S called mid → Settled T S called mid after → Closed T S (called_of called after) (row_of after) (flag_of called)
  closed-half b s = record {
    closed = λ hr i w m h. s.all (asked_from (omega arith) hr i (asked_at w m)) h;
    begun = λ r hr. omega (arith, b.begun r hr, s.grows (start_of S r));
  }

  closed-first : {mid after : List ℕ} → Begun T S [] mid → Settled T S [] mid after → Closed T S (row_of after) (row_of after) 0
  unfolding flag_of called_of
  closed-first b s = closed-half b s

  closed-second : (called : List ℕ) {mid after : List ℕ} → length called ≡ half → Begun T S called mid → Settled T S called mid after → Closed T S (row_of called) (row_of after) 1
  unfolding flag_of called_of
  closed-second [] e b s = absurd (omega arith)
  closed-second (n ∷ ns) e b s = closed-half b s

  -- The figure

  long-ends : {flag r v : ℕ} {Is : End → Type 0} → r < length S → Ends T S flag r v Is → Long T (Starts S) v
  long-ends {flag} {r} hr c = record { start = start_of S r; location = c.begin; end = c.end; count = c.count; is_start = starts r hr refl; reached = at-origin c.origin; path = c.path; long = c.enough }
    where
      at-origin : {b : ℕ} → Origin T flag (start_of S r) b → Reached T (start_of S r) b
      at-origin (the_start e) = rw e at_start
      at-origin (any_place h z) = z

  long-stands : {flag i v : ℕ} → 4097 ≤ i → Stands T S flag i v → Long T (Starts S) v
  long-stands h (stands_place z c) = absurd (omega arith)
  long-stands h (stands_over r z y c) = long-ends z c
  long-stands h (stands_back r z y c) = long-ends z c

  -- the greatest number is that of a path
  long-greatest : {called rows : List ℕ} {q : ℕ} → Kept T S called rows → Greatest rows (over_at 0) q → 0 < q → Long T (Starts S) q
  long-greatest {rows = rows} {q = q} k g h = go (g.attained h)
    where
      go : (i : ℕ) × (over_at 0 ≤ i) × (i < length rows) × (get_or rows i 0 ≡ q) → Long T (Starts S) q
      go (i, a, b, e) = let st = k.row.stands i (omega (arith, k.sized)) (omega arith) in long-stands (omega arith) (rw e at st)

  most-greatest : {rows : List ℕ} {q : ℕ} → Greatest rows (over_at 0) q → Most T S (row_of rows) q
  most-greatest g = record { overs = λ r h. g.most (over_at r) (omega arith); backs = λ r h. g.most (back_at r) (omega arith) }

  fewer-long : {q n : ℕ} → n ≤ q → Long T (Starts S) q → Long T (Starts S) n
  fewer-long h c = record { start = c.start; location = c.location; end = c.end; count = c.count; is_start = c.is_start; reached = c.reached; path = c.path; long = omega (arith, c.long) }

  exactly : {q : ℕ} → Bounds T (Starts S) q → Long T (Starts S) q → Figure T (Starts S) q
  exactly {q} b c =
      let e : c.count ≡ q = omega (arith, c.long, b.most c.is_start c.reached c.path) in
      record { bounds = b; start = c.start; location = c.location; end = c.end; is_start = c.is_start; reached = c.reached; path = rw e at c.path }

  pub found : {empty lent mid₁ called mid₂ rows : List ℕ} {q : ℕ} → empty ≡ [] → lent ≡ called → Begun T S empty mid₁ → Settled T S empty mid₁ called → Begun T S lent mid₂ → Settled T S lent mid₂ rows → Greatest rows (over_at 0) q → Found T S q
  found {mid₁ = mid₁} {called} {mid₂} {rows} {q} n l b₁ s₁ b₂ s₂ g = record {
    bounds = λ h. bounded h;
    exact = λ h z. exactly (bounded h) (long-greatest s₂.kept g z);
    long = λ h. fewer-long h (long-greatest s₂.kept g (omega arith));
  }
    where
      bounded : q < cap → Bounds T (Starts S) q
      bounded h = record { most = λ st re p. go st re p }
        where
          first : Closed T S (row_of called) (row_of called) 0
          first = let b : Begun T S [] mid₁ = rw n at b₁ in let s : Settled T S [] mid₁ called = rw n at s₁ in closed-first b s

          second : Closed T S (row_of called) (row_of rows) 1
          second = let b : Begun T S called mid₂ = rw l at b₂ in let s : Settled T S called mid₂ rows = rw l at s₂ in closed-second called s₁.kept.sized b s

          go : {s l n : ℕ} {e : End} → Starts S s → Reached T s l → Quiet T l none n e → n ≤ q
          go {l = l} (starts r hr e) re p =
              let re₁ : Reached T (start_of S r) l = rw e at re in
              bounds T S s₁.kept.shaped (row_of called) (row_of rows) first second q (most-greatest g) h hr re₁ p
