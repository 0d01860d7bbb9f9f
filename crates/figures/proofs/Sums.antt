-- Counts and their sum: the sum grows by the steps, each count is a tally, and the sum decides what passes 64 bits.
use mathlib.Core.Bool.{Bool, true, false, ◌&&◌}
use mathlib.Core.List.{List, [], ◌∷◌}
use mathlib.Core.Path.{◌≡◌, refl, sym, ◌∙◌, subst}
use Prim.Native.Nat.{ℕ, zero, suc, ◌+◌, ◌-◌, ◌≤◌, ◌<◌}
use native.Mathlib.Omega.{arith}
use lib.Dec.{eqb}
use lib.ListN.{length, get_or, set, length-set}
use lib.Seq.{get_or-set_same, get_or-set_other}
use borrow.Author.Tests.{lt-ltb, ltb-true, eqb-true, eqb-false}
use Rattle.base.specs.Bools.{both, split}
use Rattle.std.specs.Prelude.{if◌then◌else◌}
use Rattle.figures.proofs.Steps.{Every, Inside}
use Rattle.figures.specs.Figures.{sum, Figures, bump, bumps, below64, all_below64, within64}
use Rattle.figures.specs.Visits.{tally}

pub length-bump : (cs : List ℕ) (l : ℕ) → length (bump cs l) ≡ length cs
unfolding bump
length-bump cs l = length-set cs (l - 1) (suc (get_or cs (l - 1) 0))

pub length-bumps : (cs ls : List ℕ) → length (bumps cs ls) ≡ length cs
unfolding bumps
length-bumps cs [] = refl
length-bumps cs (l ∷ ls) = length-bumps (bump cs l) ls ∙ length-bump cs l

sum-set : (cs : List ℕ) (i : ℕ) → i < length cs → sum (set cs i (suc (get_or cs i 0))) ≡ sum cs + 1
unfolding sum
sum-set [] i h = absurd (omega arith)
sum-set (c ∷ cs) zero h = omega arith
sum-set (c ∷ cs) (suc i) h = let ih = sum-set cs i (omega arith) in omega arith

-- each execution is one in the sum
pub sum-bumps : (cs ls : List ℕ) → Every (Inside (length cs)) ls → sum (bumps cs ls) ≡ sum cs + length ls
unfolding bumps bump
sum-bumps cs [] h = omega arith
sum-bumps cs (l ∷ ls) h =
    let a = sum-set cs (l - 1) (omega (arith, h.0.0, h.0.1)) in
    let rest : Every (Inside (length (bump cs l))) ls = subst (λ (n : ℕ). Every (Inside n) ls) (sym (length-bump cs l)) h.1 in
    omega (arith, sum-bumps (bump cs l) ls rest)

get_d-bump : (cs : List ℕ) (l i : ℕ) → Inside (length cs) l → get_or (bump cs l) i 0 ≡ get_or cs i 0 + (if eqb l (suc i) then 1 else 0)
unfolding bump
get_d-bump cs l i h =
    split (eqb l (suc i))
    (λ t. let e = eqb-true l (suc i) t in
    let k : l - 1 ≡ i = omega arith in
    rw (t, k) (get_or-set_same cs i (suc (get_or cs i 0)) 0 (omega (arith, h.1)) ∙ (omega arith)))
    (λ f. rw f (get_or-set_other cs (l - 1) i (suc (get_or cs (l - 1) 0)) 0 (λ e. eqb-false l (suc i) f (omega (arith, h.0))) ∙ (omega arith)))

-- the count of a location is how often it stands in what was visited
pub get_d-bumps : (cs ls : List ℕ) (i : ℕ) → Every (Inside (length cs)) ls → get_or (bumps cs ls) i 0 ≡ get_or cs i 0 + tally (suc i) ls
unfolding bumps tally
get_d-bumps cs [] i h = omega arith
get_d-bumps cs (l ∷ ls) i h =
    let rest : Every (Inside (length (bump cs l))) ls = subst (λ (n : ℕ). Every (Inside n) ls) (sym (length-bump cs l)) h.1 in
    omega (arith, get_d-bumps (bump cs l) ls i rest, get_d-bump cs l i h.0)

-- 46

-- no count is more than the sum
pub count_most : (cs : List ℕ) (i : ℕ) → get_or cs i 0 ≤ sum cs
unfolding sum
count_most [] i = omega arith
count_most (c ∷ cs) zero = omega arith
count_most (c ∷ cs) (suc i) = let ih = count_most cs i in omega arith

all-below : (cs : List ℕ) → sum cs < 18446744073709551616 → all_below64 cs ≡ true
unfolding sum all_below64
all-below [] h = refl
all-below (c ∷ cs) h = both (below64 c) (all_below64 cs) (lt-ltb c 18446744073709551616 (omega arith)) (all-below cs (omega arith))

and-false : (a b : Bool) → (a && (b && false)) ≡ (b && false)
and-false true b = refl
and-false false true = refl
and-false false false = refl

-- the number of books and the total decide: no other number passes first
pub decided : (f : Figures) → f.total ≡ sum f.counts → within64 f ≡ (below64 f.books && below64 f.total)
unfolding within64
decided f e =
    split (below64 f.total)
    (λ t. let h = ltb-true f.total 18446744073709551616 t in rw (all-below f.counts (omega arith)))
    (λ n. rw n (and-false (all_below64 f.counts) (below64 f.books)))
