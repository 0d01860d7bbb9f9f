-- Laws of rules looked up by places and by names.
use mathlib.Core.Bool.{Bool, true, false, ◌&&◌, not}
use mathlib.Core.List.{List}
use mathlib.Core.Path.{◌≡◌, refl, sym, ap, ◌∙◌}
use Prim.Native.Nat.{ℕ, zero, suc, ◌+◌, ◌*◌, ◌-◌, ◌<◌, ◌≤◌}
use native.Mathlib.Omega.{arith}
use lib.Dec.{eqb}
use lib.Pointwise.{pointwise}
use lib.ListN.{get_or}
use borrow.Author.Tests.{eqb-true, eqb-false, eq-eqb, ne_eqb, le-leb, lt-leb, lt-ltb, le-ltb}
use Rattle.base.proofs.Laws.{above_zero, same_slices}
use Rattle.base.specs.Bools.{never, split}
use Rattle.std.specs.Prelude.{if◌then◌else◌}
use Rattle.base.specs.Common.{same}
use Rattle.carry.specs.Carry.{written, made, same_name}
use Rattle.carry.specs.Scan.{instruction, label, labels_left}
use Rattle.symbols.specs.Search.{part}
use Rattle.carrier.specs.Held.{count_held, size_held, number_held, name_held, last_held, rule_held, calls_held, find_held, end_held}

-- The rule in which a location lies

pub rule-zero : (sheet : List ℕ) (l : ℕ) → l ≡ 0 → (128 ≡ rule_held sheet l) × (128 ≤ 128)
unfolding rule_held
rule-zero sheet l e = (rw e refl, omega arith)

pub rule-past : (sheet : List ℕ) (size l : ℕ) → size ≡ size_held sheet → size < l → (128 ≡ rule_held sheet l) × (128 ≤ 128)
unfolding rule_held
rule-past sheet size l e h = (rw (le-leb 1 l (omega arith), lt-leb l (size_held sheet) (omega (arith, e, h))) refl, omega arith)

rule_inside : (sheet : List ℕ) (l : ℕ) → (l ≡ 0 → ⊥) → l ≤ size_held sheet → last_held sheet (count_held sheet) l ≡ rule_held sheet l
unfolding rule_held
rule_inside sheet l n h = rw (le-leb 1 l (above_zero l n), le-leb l (size_held sheet) h) refl

-- the rules from k on begin behind it
pub record Upto (sheet : List ℕ) (l k₀ k : ℕ) : Type 0 where
  pub low : k ≤ k₀
  pub last : last_held sheet k l ≡ last_held sheet k₀ l

pub upto-first : {sheet : List ℕ} {l k₀ : ℕ} → Upto sheet l k₀ k₀
upto-first = record { low = omega arith; last = refl }

last_found : (sheet : List ℕ) (k l : ℕ) → 0 < k → get_or sheet (6 * (k - 1)) 0 ≤ l → k - 1 ≡ last_held sheet k l
unfolding last_held number_held
last_found sheet zero l h e = absurd (omega arith)
last_found sheet (suc k) l h e =
    let z : suc k - 1 ≡ k = omega arith in
    let y : 6 * (suc k - 1) ≡ 6 * k + 0 = omega arith in
    let f : get_or sheet (6 * k + 0) 0 ≤ l = rw y at e in
    rw (z, le-leb (get_or sheet (6 * k + 0) 0) l f) refl

last-next : (sheet : List ℕ) (k l : ℕ) → 0 < k → l < get_or sheet (6 * (k - 1)) 0 → last_held sheet k l ≡ last_held sheet (k - 1) l
unfolding last_held number_held
last-next sheet zero l h e = absurd (omega arith)
last-next sheet (suc k) l h e =
    let z : suc k - 1 ≡ k = omega arith in
    let y : 6 * (suc k - 1) ≡ 6 * k + 0 = omega arith in
    let f : l < get_or sheet (6 * k + 0) 0 = rw y at e in
    rw (z, lt-leb (get_or sheet (6 * k + 0) 0) l f) refl

pub upto-found : {sheet : List ℕ} {l k₀ k : ℕ} (n : ℕ) → Upto sheet l k₀ k → 0 < k → k₀ ≡ count_held sheet → count_held sheet ≤ 128 → (l ≡ 0 → ⊥) → l ≤ size_held sheet → n ≡ get_or sheet (6 * (k - 1)) 0 → n ≤ l
    → (k - 1 ≡ rule_held sheet l) × (k - 1 ≤ 128)
upto-found {sheet} {l} {k₀} {k} n u h e few nz le d t =
    let x : get_or sheet (6 * (k - 1)) 0 ≤ l = rw d at t in
    (last_found sheet k l h x ∙ u.last ∙ ap (λ (i : ℕ). last_held sheet i l) e ∙ rule_inside sheet l nz le, omega (arith, u.low, e, few))

pub upto_next : {sheet : List ℕ} {l k₀ k : ℕ} (n : ℕ) → Upto sheet l k₀ k → 0 < k → n ≡ get_or sheet (6 * (k - 1)) 0 → l < n → Upto sheet l k₀ (k - 1)
upto_next {sheet} {l} {k₀} {k} n u h d t =
    let x : l < get_or sheet (6 * (k - 1)) 0 = rw d at t in
    record { low = omega (arith, u.low); last = sym (last-next sheet k l h x) ∙ u.last }

pub upto-none : {sheet : List ℕ} {l k₀ k : ℕ} → Upto sheet l k₀ k → k ≤ 0 → k₀ ≡ count_held sheet → (l ≡ 0 → ⊥) → l ≤ size_held sheet → (128 ≡ rule_held sheet l) × (128 ≤ 128)
unfolding last_held
upto-none {sheet} {l} {k₀} {k} u h e nz le =
    let z : k ≡ 0 = omega arith in
    let x : last_held sheet 0 l ≡ last_held sheet k₀ l = rw z at u.last in
    (x ∙ ap (λ (i : ℕ). last_held sheet i l) e ∙ rule_inside sheet l nz le, omega arith)

-- Names

module _ (old sheet : List ℕ) (i : ℕ) (new other : List ℕ) (j : ℕ) where
  abbrev Meet : Bool
  Meet = same_name (name_held old sheet i) (name_held new other j)

  pub names_apart : (a b : ℕ) → a ≡ get_or sheet (6 * i + 5) 0 → b ≡ get_or other (6 * j + 5) 0 → (a ≡ b → ⊥) → false ≡ Meet
  unfolding name_held number_held same_name
  names_apart a b d e ne = go (eqb (get_or sheet (6 * i + 5) 0) 0) refl (eqb (get_or other (6 * j + 5) 0) 0) refl
    where
      x : ℕ
      x = get_or sheet (6 * i + 5) 0

      y : ℕ
      y = get_or other (6 * j + 5) 0

      apart : eqb x y ≡ false
      apart = ne_eqb x y (λ z. ne (d ∙ z ∙ sym e))

      go : (s : Bool) → eqb x 0 ≡ s → (t : Bool) → eqb y 0 ≡ t
          → false ≡ same_name (if s then written (part old (number_held sheet i 1) (number_held sheet i 2)) else made (part old (number_held sheet i 1) (number_held sheet i 2)) (part old (number_held sheet i 3) (number_held sheet i 4)) x)
          (if t then written (part new (number_held other j 1) (number_held other j 2)) else made (part new (number_held other j 1) (number_held other j 2)) (part new (number_held other j 3) (number_held other j 4)) y)
      go true f true g = absurd (ne (d ∙ eqb-true x 0 f ∙ sym (eqb-true y 0 g) ∙ sym e))
      go true f false g = refl
      go false f true g = refl
      go false f false g = rw apart (and-false (same (part old (number_held sheet i 1) (number_held sheet i 2)) (part new (number_held other j 1) (number_held other j 2)) && same (part old (number_held sheet i 3) (number_held sheet i 4)) (part new (number_held other j 3) (number_held other j 4))))
        where
          and-false : (b : Bool) → false ≡ (b && false)
          and-false true = refl
          and-false false = refl

  pub names-written : (a b : ℕ) (r : Bool) → a ≡ get_or sheet (6 * i + 5) 0 → b ≡ get_or other (6 * j + 5) 0 → a ≡ b → a ≡ 0
      → r ≡ same (part old (get_or sheet (6 * i + 1) 0) (get_or sheet (6 * i + 2) 0)) (part new (get_or other (6 * j + 1) 0) (get_or other (6 * j + 2) 0)) → r ≡ Meet
  unfolding name_held number_held same_name
  names-written a b r d e q z h =
      let x : get_or sheet (6 * i + 5) 0 ≡ 0 = sym d ∙ z in
      let y : get_or other (6 * j + 5) 0 ≡ 0 = sym e ∙ sym q ∙ z in
      rw (x, y) h

  -- of rules made for operators
  pub names-made : (a b : ℕ) (r s : Bool) → a ≡ get_or sheet (6 * i + 5) 0 → b ≡ get_or other (6 * j + 5) 0 → a ≡ b → (a ≡ 0 → ⊥)
      → r ≡ same (part old (get_or sheet (6 * i + 1) 0) (get_or sheet (6 * i + 2) 0)) (part new (get_or other (6 * j + 1) 0) (get_or other (6 * j + 2) 0))
      → s ≡ same (part old (get_or sheet (6 * i + 3) 0) (get_or sheet (6 * i + 4) 0)) (part new (get_or other (6 * j + 3) 0) (get_or other (6 * j + 4) 0)) → (r && s) ≡ Meet
  unfolding name_held number_held same_name
  names-made a b r s d e q nz h k =
      let x : eqb (get_or sheet (6 * i + 5) 0) 0 ≡ false = ne_eqb (get_or sheet (6 * i + 5) 0) 0 (λ z. nz (d ∙ z)) in
      let y : eqb (get_or other (6 * j + 5) 0) 0 ≡ false = ne_eqb (get_or other (6 * j + 5) 0) 0 (λ z. nz (q ∙ e ∙ z)) in
      let w : eqb (get_or sheet (6 * i + 5) 0) (get_or other (6 * j + 5) 0) ≡ true = eq-eqb _ _ (sym d ∙ q ∙ e) in
      rw (x, y, w, ← h, ← k) (and-true (r && s))
    where
      and-true : (b : Bool) → b ≡ (b && true)
      and-true true = refl
      and-true false = refl

  pub names-first : (a b : ℕ) (r : Bool) → a ≡ get_or sheet (6 * i + 5) 0 → b ≡ get_or other (6 * j + 5) 0 → a ≡ b → (a ≡ 0 → ⊥)
      → r ≡ same (part old (get_or sheet (6 * i + 1) 0) (get_or sheet (6 * i + 2) 0)) (part new (get_or other (6 * j + 1) 0) (get_or other (6 * j + 2) 0)) → r ≡ false → false ≡ Meet
  names-first a b r d e q nz h f = rw f at (names-made a b r _ d e q nz h refl)

  pub names-both : (a b : ℕ) (r s : Bool) → a ≡ get_or sheet (6 * i + 5) 0 → b ≡ get_or other (6 * j + 5) 0 → a ≡ b → (a ≡ 0 → ⊥)
      → r ≡ same (part old (get_or sheet (6 * i + 1) 0) (get_or sheet (6 * i + 2) 0)) (part new (get_or other (6 * j + 1) 0) (get_or other (6 * j + 2) 0)) → r ≡ true
      → s ≡ same (part old (get_or sheet (6 * i + 3) 0) (get_or sheet (6 * i + 4) 0)) (part new (get_or other (6 * j + 3) 0) (get_or other (6 * j + 4) 0)) → s ≡ Meet
  names-both a b r s d e q nz h t k = rw t at (names-made a b r s d e q nz h k)

pub not_so : (b : Bool) → not b ≡ true → b ≡ false
not_so true e = never e
not_so false e = refl

pub yet-so : (b : Bool) → not b ≡ false → b ≡ true
yet-so true e = refl
yet-so false e = never (sym e)

-- Calls

module _ (old sheet new other : List ℕ) (x y : ℕ) where
  abbrev Called : Bool
  Called = calls_held old sheet new other x y

  pub calls-nowhere : (i : ℕ) → i ≡ rule_held sheet x → i ≡ 128 → false ≡ Called
  unfolding calls_held
  calls-nowhere i e z = rw (sym e ∙ z) refl

  pub calls-gone : (i j : ℕ) → i ≡ rule_held sheet x → (i ≡ 128 → ⊥) → j ≡ rule_held other y → j ≡ 128 → false ≡ Called
  unfolding calls_held
  calls-gone i j e n f z = rw (← e, ne_eqb i 128 n, sym f ∙ z) refl

  pub calls-named : (i j : ℕ) (r : Bool) → i ≡ rule_held sheet x → (i ≡ 128 → ⊥) → j ≡ rule_held other y → (j ≡ 128 → ⊥)
      → r ≡ same_name (name_held old sheet i) (name_held new other j) → r ≡ Called
  unfolding calls_held
  calls-named i j r e n f m h = rw (← e, ← f, ne_eqb i 128 n, ne_eqb j 128 m) h

-- The rule with a name

pub record Sought (old sheet : List ℕ) (i : ℕ) (new other : List ℕ) (n j : ℕ) : Type 0 where
  pub low : j ≤ n
  pub rest : find_held old sheet i new other (n - j) j ≡ find_held old sheet i new other n 0

pub sought-first : {old sheet : List ℕ} {i : ℕ} {new other : List ℕ} {n : ℕ} → Sought old sheet i new other n 0
sought-first {old} {sheet} {i} {new} {other} {n} = let z : n - 0 ≡ n = omega arith in record { low = omega arith; rest = rw z refl }

find-next : (old sheet : List ℕ) (i : ℕ) (new other : List ℕ) (k j : ℕ) (r : Bool) → 0 < k → r ≡ same_name (name_held old sheet i) (name_held new other j)
    → find_held old sheet i new other k j ≡ (if r then j else find_held old sheet i new other (k - 1) (suc j))
unfolding find_held
find-next old sheet i new other zero j r h e = absurd (omega arith)
find-next old sheet i new other (suc k) j r h e = let z : suc k - 1 ≡ k = omega arith in rw (z, ← e) refl

pub sought-found : {old sheet : List ℕ} {i : ℕ} {new other : List ℕ} {n j : ℕ} (r : Bool) → Sought old sheet i new other n j → n ≡ count_held other → j < n → count_held other ≤ 128 → r ≡ same_name (name_held old sheet i) (name_held new other j) → r ≡ true
    → (j ≡ find_held old sheet i new other (count_held other) 0) × (j ≤ 128)
sought-found {old} {sheet} {i} {new} {other} {n} {j} r s d l m e t =
    (sym (find-next old sheet i new other (n - j) j r (omega arith) e ∙ rw t refl) ∙ s.rest ∙ ap (λ (k : ℕ). find_held old sheet i new other k 0) d, omega (arith, d, l, m))

pub sought-next : {old sheet : List ℕ} {i : ℕ} {new other : List ℕ} {n j : ℕ} (r : Bool) → Sought old sheet i new other n j → j < n → r ≡ same_name (name_held old sheet i) (name_held new other j) → r ≡ false
    → Sought old sheet i new other n (j + 1)
sought-next {old} {sheet} {i} {new} {other} {n} {j} r s l e t =
    let x : n - j - 1 ≡ n - (j + 1) = omega arith in
    let y : suc j ≡ j + 1 = omega arith in
    record { low = omega arith; rest = sym (find-next old sheet i new other (n - j) j r (omega arith) e ∙ (rw (t, x, y) refl)) ∙ s.rest }

pub sought-none : {old sheet : List ℕ} {i : ℕ} {new other : List ℕ} {n j : ℕ} → Sought old sheet i new other n j → n ≡ count_held other → n ≤ j → (128 ≡ find_held old sheet i new other (count_held other) 0) × (128 ≤ 128)
unfolding find_held
sought-none {old} {sheet} {i} {new} {other} {n} {j} s d l =
    let z : n - j ≡ 0 = omega arith in
    let x : find_held old sheet i new other 0 j ≡ find_held old sheet i new other n 0 = rw z at s.rest in
    (x ∙ ap (λ (k : ℕ). find_held old sheet i new other k 0) d, omega arith)

pub end-next : (sheet : List ℕ) (i r : ℕ) → i + 1 < count_held sheet → r ≡ get_or sheet (6 * (i + 1)) 0 → r < 65536 → (r ≡ end_held sheet i) × (r < 65536)
unfolding end_held number_held
end-next sheet i r h e l = let z : 6 * (i + 1) + 0 ≡ 6 * (i + 1) = omega arith in (rw (lt-ltb (i + 1) (count_held sheet) h, z) e, l)

pub end-last : (sheet : List ℕ) (size i : ℕ) → count_held sheet ≤ i + 1 → size ≡ size_held sheet → size ≤ 4096 → (size + 1 ≡ end_held sheet i) × (size + 1 < 65536)
unfolding end_held
end-last sheet size i h e l = (rw (le-ltb (i + 1) (count_held sheet) h) (ap (λ (n : ℕ). n + 1) e), omega arith)

-- What is expected behind the count of a choice table

pub labels-none : (n : ℕ) → n ≡ 0 → instruction ≡ labels_left n
unfolding labels_left
labels-none n e = rw e refl

pub labels-some : (n : ℕ) → (n ≡ 0 → ⊥) → label (n - 1) ≡ labels_left n
unfolding labels_left
labels-some zero h = absurd (h refl)
labels-some (suc n) h = let z : suc n - 1 ≡ n = omega arith in rw z refl

-- Parts compared as slices

pub slices-same : {r : Bool} {x y u v : List ℕ} → r ≡ pointwise eqb x y → x ≡ u → y ≡ v → r ≡ same u v
slices-same {r} {x} {y} h e f = h ∙ same_slices x y ∙ (λ i. same (e i) (f i))

-- the first names differ
pub names-unlike : {n : Bool} {x y : List ℕ} (old sheet : List ℕ) (i : ℕ) (new other : List ℕ) (j a b : ℕ) → a ≡ get_or sheet (6 * i + 5) 0 → b ≡ get_or other (6 * j + 5) 0 → a ≡ b
    → n ≡ not (pointwise eqb x y) → n ≡ true → x ≡ part old (get_or sheet (6 * i + 1) 0) (get_or sheet (6 * i + 2) 0) → y ≡ part new (get_or other (6 * j + 1) 0) (get_or other (6 * j + 2) 0)
    → false ≡ same_name (name_held old sheet i) (name_held new other j)
names-unlike {n} {x} {y} old sheet i new other j a b d e q h t f g =
    let z : pointwise eqb x y ≡ false = not_so (pointwise eqb x y) (sym h ∙ t) in
    split (eqb a 0)
    (λ k. names-written old sheet i new other j a b false d e q (eqb-true a 0 k) (sym z ∙ slices-same refl f g))
    (λ k. names-first old sheet i new other j a b false d e q (eqb-false a 0 k) (sym z ∙ slices-same refl f g) refl)

-- the first names are the same
pub names-like : {n : Bool} {x y : List ℕ} {u v : List ℕ} → n ≡ not (pointwise eqb x y) → n ≡ false → x ≡ u → y ≡ v → true ≡ same u v
names-like {n} {x} {y} h t f g = sym (yet-so (pointwise eqb x y) (sym h ∙ t)) ∙ slices-same refl f g

pub unlike : {n : Bool} (x y : List ℕ) → n ≡ not (pointwise eqb x y) → n ≡ true → pointwise eqb x y ≡ false
unlike x y h t = not_so (pointwise eqb x y) (sym h ∙ t)

pub alike : {n : Bool} (x y : List ℕ) → n ≡ not (pointwise eqb x y) → n ≡ false → pointwise eqb x y ≡ true
alike x y h t = yet-so (pointwise eqb x y) (sym h ∙ t)
