-- Laws of steps.
use mathlib.Core.Bool.{Bool, true, false, ◌||◌}
use mathlib.Core.List.{List, [], ◌∷◌}
use mathlib.Core.Logic.{◌⊎◌, inl, inr}
use mathlib.Core.Path.{◌≡◌, refl, sym, ◌∙◌}
use native.Mathlib.Decide.{dec_lt}
use native.Mathlib.Omega.{arith}
use Prim.Native.Nat.{ℕ, zero, suc, ◌≤◌, ◌<◌, min}
use lib.Dec.{ltb}
use lib.ListN.{length, get_or, set, length-set}
use lib.Seq.{get_or-set_same, get_or-set_other}
use borrow.Author.Tests.{ltb-true, ltb-false}
use Rattle.base.proofs.Laws.{neither}
use Rattle.base.specs.Bools.{never}
use Rattle.machine.specs.Decode.{Instruction, decode}
use Rattle.figure.specs.Figure.{End}
use Rattle.meter.specs.Makes.{Makes, half, cap, Ends, Sound, Stands, stands_place, stands_over, stands_back}
use Rattle.meter.proofs.Stands.{come, stands}
use Rattle.meter.specs.Steps.{flag_of, row_of, called_of, left, Asked, Kept, Here, Steps, Only, only, Both, this, that, IsBelow, Raised, RaisedTwo}

-- What the numbers have left

left-set : (rows : List ℕ) (i v : ℕ) → i < length rows → get_or rows i 0 < v → v ≤ cap → left (set rows i v) < left rows
unfolding left
left-set [] i v h l c = absurd (omega arith)
left-set (n ∷ ns) zero v h l c = omega arith
left-set (n ∷ ns) (suc i) v h l c = omega (arith, left-set ns i v (omega arith) l c)

module _ {T S : List ℕ} where
  -- a path with v instructions has also fewer
  fewer : {flag i v w : ℕ} → w ≤ v → Stands T S flag i v → Stands T S flag i w
  fewer {flag} {i} {v} {w} h = go
    where
      ends : {r : ℕ} {Is : End → Type 0} → Ends T S flag r v Is → Ends T S flag r w Is
      ends c = record { begin = c.begin; count = c.count; end = c.end; origin = c.origin; path = c.path; is = c.is; enough = omega (arith, c.enough) }

      go : Stands T S flag i v → Stands T S flag i w
      go (stands_place z c) = stands_place z (record { rule = c.rule; begin = c.begin; before = c.before; is_rule = c.is_rule; reached = c.reached; origin = c.origin; prefix = c.prefix; enough = omega (arith, c.enough) })
      go (stands_over r z y c) = stands_over r z y (ends c)
      go (stands_back r z y c) = stands_back r z y (ends c)

  -- a number may be raised at one place
  sound-set : {row after : ℕ → ℕ} {flag i v w : ℕ} → ((j : ℕ) → (after j ≡ row j) ⊎ ((j ≡ i) × (after j ≡ w))) → w ≤ v → Stands T S flag i v → Sound T S row flag → Sound T S after flag
  sound-set {row} {after} {flag} {i} {v} {w} f h st so = record { stands = λ j b p. at_place j b p (f j) }
    where
      at_place : (j : ℕ) → j < half → 0 < after j → (after j ≡ row j) ⊎ ((j ≡ i) × (after j ≡ w)) → Stands T S flag j (after j)
      at_place j b p (inl e) = rw e (so.stands j b (omega arith))
      at_place j b p (inr e) = rw (e.1, e.0) (fewer h st)

-- One place of a list

set-either : (rows : List ℕ) (i w j : ℕ) → i < length rows → (get_or (set rows i w) j 0 ≡ get_or rows j 0) ⊎ ((j ≡ i) × (get_or (set rows i w) j 0 ≡ w))
set-either rows i w j h = elim (dec_lt j i) [
  | yes z ↦ inl (get_or-set_other rows i j w 0 (λ e. omega arith))
  | no z ↦ elim (dec_lt i j) [
    | yes y ↦ inl (get_or-set_other rows i j w 0 (λ e. omega arith))
    | no y ↦ let e : j ≡ i = omega arith in
        let q : get_or (set rows i w) j 0 ≡ w = rw e (get_or-set_same rows i w 0 h) in
        inr (e, q)
  ]
]

-- it is the cap at most
small-set : (rows : List ℕ) {i w : ℕ} → i < length rows → w ≤ cap → ((j : ℕ) → get_or rows j 0 ≤ cap) → (j : ℕ) → get_or (set rows i w) j 0 ≤ cap
small-set rows {i} {w} n h f j = go (set-either rows i w j n)
  where
    go : (get_or (set rows i w) j 0 ≡ get_or rows j 0) ⊎ ((j ≡ i) × (get_or (set rows i w) j 0 ≡ w)) → get_or (set rows i w) j 0 ≤ cap
    go (inl e) = omega (arith, f j)
    go (inr e) = omega (arith, e.1)

-- The called rules' numbers are those where one is raised, or others

called-small-set : (called rows : List ℕ) {i w : ℕ} → i < length rows → w ≤ cap → ((j : ℕ) → called_of called rows j ≤ cap) → (j : ℕ) → called_of called (set rows i w) j ≤ cap
unfolding called_of
called-small-set [] rows n h f j = small-set rows n h f j
called-small-set (c ∷ cs) rows n h f j = f j

called-set : {T S : List ℕ} (called rows : List ℕ) {i v w : ℕ} → i < length rows → w ≤ v → Stands T S (flag_of called) i v → Sound T S (called_of called rows) 0 → Sound T S (called_of called (set rows i w)) 0
unfolding flag_of called_of
called-set [] rows {i} {w = w} n h st so = sound-set (λ j. set-either rows i w j n) h st so
called-set (c ∷ cs) rows n h st so = so

module _ {T S called : List ℕ} where
  -- a number is raised
  kept_set : {rows : List ℕ} {i v w : ℕ} → Kept T S called rows → i < half → w ≤ v → w ≤ cap → Stands T S (flag_of called) i v → Kept T S called (set rows i w)
  kept_set {rows} {i} {v} {w} k h z y st =
      let n : i < length rows = omega (arith, k.sized) in
      record {
        sized = length-set rows i w ∙ k.sized;
        shaped = k.shaped;
        small = small-set rows n y k.small;
        called_small = called-small-set called rows n y k.called_small;
        first = called-set called rows n z st k.first;
        row = sound-set (λ j. set-either rows i w j n) z st k.row;
      }

  -- nothing is raised
  pub stays : {M : Asked} {rows : List ℕ} → Kept T S called rows → ((i v : ℕ) → M rows i v → i < half → min v cap ≤ row_of rows i) → Steps T S M called rows rows false
  stays k f = record { kept = k; grows = λ i. omega arith; same = λ e. refl; less = λ e. never e; all = λ e {i} {v} m h. f i v m h }

  -- a number is raised: to v, or to the cap
  pub raised : {rows : List ℕ} {i v w : ℕ} → Kept T S called rows → i < half → w ≡ min v cap → row_of rows i < w → Stands T S (flag_of called) i v → Steps T S (Only i v) called rows (set rows i w) true
  raised {rows} {i} {v} {w} k h e l st =
      let n : i < length rows = omega (arith, k.sized) in
      record {
        kept = kept_set k h (omega arith) (omega arith) st;
        grows = λ j. grows j (set-either rows i w j n);
        same = λ z. never (sym z);
        less = λ z. left-set rows i w n l (omega arith);
        all = λ z. never (sym z);
      }
    where
      grows : (j : ℕ) → (get_or (set rows i w) j 0 ≡ get_or rows j 0) ⊎ ((j ≡ i) × (get_or (set rows i w) j 0 ≡ w)) → get_or rows j 0 ≤ get_or (set rows i w) j 0
      grows j (inl e) = omega arith
      grows j (inr e) = let z : get_or rows j 0 < w = rw e.0 l in omega (arith, e.1)

  -- one step after the other
  pub seq : {M N : Asked} {rows mid after : List ℕ} {a b : Bool} → Steps T S M called rows mid a → Steps T S N called mid after b → Steps T S (Both M N) called rows after (a || b)
  seq {M} {N} {rows} {mid} {after} {a} {b} x y = record {
    kept = y.kept;
    grows = λ i. omega (arith, x.grows i, y.grows i);
    same = λ e. y.same (neither a b e).1 ∙ x.same (neither a b e).0;
    less = λ e. less a b e x.less x.same y.less y.same;
    all = λ e m h. all e m h;
  }
    where
      less : (a b : Bool) → (a || b) ≡ true → (a ≡ true → left mid < left rows) → (a ≡ false → mid ≡ rows) → (b ≡ true → left after < left mid) → (b ≡ false → after ≡ mid) → left after < left rows
      less true true e p q r s = omega (arith, p refl, r refl)
      less true false e p q r s = rw (s refl) (p refl)
      less false true e p q r s = rw (← q refl) (r refl)
      less false false e p q r s = never e

      all : (a || b) ≡ false → {i v : ℕ} → Both M N rows i v → i < half → min v cap ≤ row_of rows i
      all e (this m) h = x.all (neither a b e).0 m h
      all e {i} {v} (that m) h =
          let q = x.same (neither a b e).0 in
          let z : N mid i v = rw q m in
          rw (← q) (y.all (neither a b e).1 z h)

  -- more is asked for by less
  pub covers : {M N : Asked} {rows after : List ℕ} {a : Bool} → ((i v : ℕ) → N rows i v → M rows i v) → Steps T S M called rows after a → Steps T S N called rows after a
  covers f x = record { kept = x.kept; grows = x.grows; same = x.same; less = x.less; all = λ e {i} {v} m h. x.all e (f i v m) h }

-- Raising one place

pub below-past : {i v : ℕ} {rows : List ℕ} → half ≤ i → IsBelow i v rows false
below-past h = record { below = λ e. never e; enough = λ e z. absurd (omega arith) }

pub below-test : {i v a w : ℕ} {rows : List ℕ} → i < half → a ≡ row_of rows i → w ≡ min v cap → IsBelow i v rows (ltb a w)
below-test {a = a} {w = w} h e f = record { below = λ t. (h, omega (arith, ltb-true a w t)); enough = λ t z. omega (arith, ltb-false a w t) }

pub enough : {i v : ℕ} {rows : List ℕ} {b : Bool} → IsBelow i v rows b → b ≡ false → Raised i v rows rows false
enough {i} {v} {rows} x e = record { sized = refl; at_least = λ z y. x.enough e y; steps = λ k st. stays k (λ j w m z. has m z) }
  where
    has : {j w : ℕ} → Only i v rows j w → j < half → min w cap ≤ row_of rows j
    has only z = x.enough e z

pub higher : {i v w : ℕ} {rows : List ℕ} {b : Bool} → IsBelow i v rows b → b ≡ true → w ≡ min v cap → Raised i v rows (set rows i w) true
higher {i} {w = w} {rows = rows} x q e =
    let h = (x.below q).0 in
    let l : row_of rows i < w = omega (arith, (x.below q).1) in
    record { sized = length-set rows i w; at_least = λ z y. omega (arith, get_or-set_same rows i w 0 z); steps = λ k st. raised k h e l (st h (omega arith)) }

pub flag_small : (called : List ℕ) → flag_of called ≤ 1
unfolding flag_of
flag_small [] = omega arith
flag_small (n ∷ ns) = omega arith

-- what an instruction asks for may be raised
pub may : {T S called : List ℕ} {r l k j v : ℕ} {rows : List ℕ} {i : Instruction} → Kept T S called rows → Here T S called r l k → decode T l ≡ i → Makes T S (called_of called rows) (flag_of called) r l k i j v
    → j < half → 0 < v → Stands T S (flag_of called) j v
may {T} {S} {called} {rows = rows} k h d m z y =
    stands T S k.shaped (called_of called rows) k.first (flag_of called) (flag_small called) (come T S k.shaped (called_of called rows) k.first (flag_of called) (flag_small called) h.is_rule h.in_rule h.comes) d m y

-- two places, one after the other
pub two : {i v j w : ℕ} {rows mid after : List ℕ} {a b : Bool} → Raised i v rows mid a → Raised j w mid after b → RaisedTwo i v j w rows after (a || b)
two x y = record { sized = y.sized ∙ x.sized; steps = λ k s t. let z = x.steps k s in seq z (y.steps z.kept t) }
