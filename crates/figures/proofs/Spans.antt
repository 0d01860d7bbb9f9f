-- Laws of totals by spans.
use mathlib.Core.List.{List, [], ◌∷◌}
use mathlib.Core.Path.{◌≡◌, refl, sym, ap, ◌∙◌}
use Prim.Native.Nat.{ℕ, zero, suc, ◌+◌, ◌-◌, ◌<◌, ◌≤◌, min}
use native.Mathlib.Decide.{dec_le}
use native.Mathlib.Omega.{arith}
use lib.ListN.{length, take, drop, get_or, length-take, drop_of_length-le}
use lib.Seq.{take_all, take-nil}
use Rattle.figures.specs.Figures.{sum}
use Rattle.figures.specs.Spans.{span_total, next_at, span_totals, location_at, locations_at}

-- a beginning past the end is all
take_min : (n m : ℕ) (l : List ℕ) → length l ≡ m → take (min n m) l ≡ take n l
take_min n m l e = elim (dec_le n m) [
  | yes h ↦ (let z : min n m ≡ n = omega arith in ap (λ (k : ℕ). take k l) z)
  | no h ↦ take_all (min n m) l (omega arith) ∙ sym (take_all n l (omega arith))
]

-- the span inside the counts
pub span-within : (from to start end : ℕ) (counts : List ℕ) → start ≡ min (from - 1) (length counts) → end ≡ min (to - 1) (length counts)
    → sum (drop start (take end counts)) ≡ span_total from to counts
unfolding span_total
span-within from to start end counts e f =
    ap (λ (l : List ℕ). sum (drop start l)) (ap (λ (k : ℕ). take k counts) f ∙ take_min (to - 1) (length counts) counts refl) ∙ ap sum (dropped (take (to - 1) counts) (length-take (to - 1) counts))
  where
    dropped : (l : List ℕ) → length l ≡ min (to - 1) (length counts) → drop start l ≡ drop (from - 1) l
    dropped l n = elim (dec_le (from - 1) (length counts)) [
      | yes h ↦ (let s : start ≡ from - 1 = omega arith in ap (λ (k : ℕ). drop k l) s)
      | no h ↦ drop_of_length-le l {i = start} (omega arith) ∙ sym (drop_of_length-le l {i = from - 1} (omega arith))
    ]

-- what is left of a beginning
pub drop-take : (i j : ℕ) (l : List ℕ) → drop i (take j l) ≡ take (j - i) (drop i l)
drop-take zero j l = let z : j - 0 ≡ j = omega arith in rw z refl
drop-take (suc i) zero l = let z : 0 - suc i ≡ 0 = omega arith in rw z refl
drop-take (suc i) (suc j) [] = sym (take-nil (suc j - suc i))
drop-take (suc i) (suc j) (c ∷ l) = let z : suc j - suc i ≡ j - i = omega arith in rw z (drop-take i j l)

pub sum_drop : (l : List ℕ) (i : ℕ) → sum (drop i l) ≤ sum l
unfolding sum
sum_drop l zero = omega arith
sum_drop [] (suc i) = omega arith
sum_drop (c ∷ l) (suc i) = let h = sum_drop l i in omega arith

pub length-span_totals : (ls : List ℕ) (e : ℕ) (counts : List ℕ) → length (span_totals ls e counts) ≡ length ls
unfolding span_totals
length-span_totals [] e counts = refl
length-span_totals (l ∷ ls) e counts = ap suc (length-span_totals ls e counts)

pub length-locations_at : (ws : List ℕ) (i n : ℕ) → length (locations_at ws i n) ≡ n
unfolding locations_at
length-locations_at ws i zero = refl
length-locations_at ws i (suc n) = ap suc (length-locations_at ws (i + 1) n)

-- the total of row j, where another follows, and of the last
pub get_d-span_totals : (ws : List ℕ) (i n j e : ℕ) (counts : List ℕ) → j + 1 < n
    → get_or (span_totals (locations_at ws i n) e counts) j 0 ≡ span_total (location_at ws (i + j)) (location_at ws (i + j + 1)) counts
unfolding locations_at span_totals next_at
get_d-span_totals ws i zero j e counts h = absurd (omega arith)
get_d-span_totals ws i (suc zero) j e counts h = absurd (omega arith)
get_d-span_totals ws i (suc (suc n)) zero e counts h =
    let a : i ≡ i + 0 = omega arith in
    let b : i + 1 ≡ i + 0 + 1 = omega arith in
    (λ k. span_total (location_at ws (a k)) (location_at ws (b k)) counts)
get_d-span_totals ws i (suc (suc n)) (suc j) e counts h =
    let a : i + 1 + j ≡ i + suc j = omega arith in
    let b : i + 1 + j + 1 ≡ i + suc j + 1 = omega arith in
    get_d-span_totals ws (i + 1) (suc n) j e counts (omega arith) ∙ (λ k. span_total (location_at ws (a k)) (location_at ws (b k)) counts)

pub get_d-last_total : (ws : List ℕ) (i n j e : ℕ) (counts : List ℕ) → j + 1 ≡ n → get_or (span_totals (locations_at ws i n) e counts) j 0 ≡ span_total (location_at ws (i + j)) e counts
unfolding locations_at span_totals next_at
get_d-last_total ws i zero j e counts h = absurd (omega arith)
get_d-last_total ws i (suc zero) zero e counts h = let a : i ≡ i + 0 = omega arith in (λ k. span_total (location_at ws (a k)) e counts)
get_d-last_total ws i (suc zero) (suc j) e counts h = absurd (omega arith)
get_d-last_total ws i (suc (suc n)) zero e counts h = absurd (omega arith)
get_d-last_total ws i (suc (suc n)) (suc j) e counts h =
    let a : i + 1 + j ≡ i + suc j = omega arith in
    get_d-last_total ws (i + 1) (suc n) j e counts (omega arith) ∙ (λ k. span_total (location_at ws (a k)) e counts)
