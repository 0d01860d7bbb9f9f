-- Laws of the tests on lists and of places.
use mathlib.Core.Bool.{Bool, true, false, ◌&&◌}
use mathlib.Core.List.{List, [], ◌∷◌}
use mathlib.Core.Option.{none, some}
use mathlib.Core.Path.{◌≡◌, refl, sym, ap, ◌∙◌}
use Prim.Native.Nat.{ℕ, zero, suc, ◌+◌, ◌-◌, ◌<◌, ◌≤◌}
use native.Mathlib.Omega.{arith}
use lib.Dec.{eqb, ltb}
use lib.ListN.{length}
use borrow.Author.Tests.{eqb-true, eq-eqb, ltb-true, ltb-false}
use Rattle.base.proofs.Laws.{same_refl, same-eq}
use Rattle.base.specs.Bools.{never, and}
use Rattle.std.specs.Prelude.{if◌then◌else◌}
use Rattle.base.specs.Common.{same}
use Rattle.program.specs.Program.{Rule, rule_of}
use Rattle.program.specs.Table.{size_rule, place}
use Rattle.carry.specs.Carry.{Name, written, made, same_name, Place, place_in, place_of, number_of, name_of, same_all}

pub some_inj : {A : Type 0} {a b : A} → some a ≡ some b → a ≡ b
some_inj e = cc

pub none-some {ℓ} : {A : Type 0} {B : Type ℓ} {a : A} → none ≡ some a → B
none-some e = let z : ◌≡◌ {A = ℕ} 0 1 = cc in absurd (omega arith)

pub all-self : (vs : List (List ℕ)) → same_all vs vs ≡ true
unfolding same_all
all-self [] = refl
all-self (v ∷ vs) = rw (same_refl v, all-self vs)

-- Names

pub name-self : (v : Name) → same_name v v ≡ true
unfolding same_name
name-self (written w) = same_refl w
name-self (made s r l) = rw (same_refl s, same_refl r, eq-eqb l l refl)

pub name-eq : (v w : Name) → same_name v w ≡ true → v ≡ w
unfolding same_name
name-eq (written v) (written w) e = ap written (same-eq v w e)
name-eq (written v) (made s r l) e = never e
name-eq (made s r l) (written w) e = never e
name-eq (made s r l) (made t q m) e =
    let a = and (same s t && same r q) (eqb l m) e in
    let b = and (same s t) (same r q) a.0 in
    let x = same-eq s t b.0 in
    let y = same-eq r q b.1 in
    let z = eqb-true l m a.1 in
    λ i. made (x i) (y i) (z i)

-- w is none of them
pub data Apart (w : Name) : List Name → Type 0 where
  apart-nil : Apart w []
  apart_cons : {v : Name} {vs : List Name} → same_name v w ≡ false → Apart w vs → Apart w (v ∷ vs)

-- no name stands twice
pub data Distinct : List Name → Type 0 where
  distinct_nil : Distinct []
  distinct_cons : {v : Name} {vs : List Name} → Apart v vs → Distinct vs → Distinct (v ∷ vs)

apart-at : {w : Name} {vs : List Name} → Apart w vs → (r : ℕ) → r < length vs → same_name (name_of vs r) w ≡ false
unfolding name_of
apart-at apart-nil r h = absurd (omega arith)
apart-at (apart_cons e a) zero h = e
apart-at (apart_cons e a) (suc r) h = apart-at a r (omega arith)

-- the name of a rule finds that rule
pub number-name : {vs : List Name} → Distinct vs → (i r : ℕ) → r < length vs → number_of (name_of vs r) i vs ≡ some (i + r)
unfolding number_of name_of
number-name distinct_nil i r h = absurd (omega arith)
number-name (distinct_cons {v = v} a d) i zero h = let e : i ≡ i + 0 = omega arith in rw (name-self v) (ap some e)
number-name (distinct_cons {v = v} {vs = vs} a d) i (suc r) h =
    let f = apart-at a r (omega arith) in
    let e : suc i + r ≡ i + suc r = omega arith in
    rw f (number-name d (suc i) r (omega arith) ∙ ap some e)

-- a number that a name finds is that of a rule with the name
pub number-found : (w : Name) (i : ℕ) (vs : List Name) (s : ℕ) → number_of w i vs ≡ some s
    → (j : ℕ) × (s ≡ i + j) × (j < length vs) × (name_of vs j ≡ w)
unfolding number_of name_of
number-found w i [] s e = none-some e
number-found w i (v ∷ vs) s e = go (λ h. number-found w (suc i) vs s h) (same_name w v) refl e
  where
    go : (number_of w (suc i) vs ≡ some s → (j : ℕ) × (s ≡ suc i + j) × (j < length vs) × (name_of vs j ≡ w)) → (t : Bool) → same_name w v ≡ t → (if t then some i else number_of w (suc i) vs) ≡ some s
        → (j : ℕ) × (s ≡ i + j) × (j < length (v ∷ vs)) × (name_of (v ∷ vs) j ≡ w)
    go ih true d e₁ = let x : i ≡ s = some_inj e₁ in (0, omega arith, omega arith, sym (name-eq w v d))
    go ih false d e₁ = let h = ih e₁ in (suc h.0, omega (arith, h.1), omega (arith, h.2), h.3)

-- Places

pub record Lies (i r l : ℕ) (bs : List Rule) (at : Place) : Type 0 where
  pub number : ℕ
  pub rule : at.rule ≡ r + number
  pub there : number < length bs
  pub location : place l bs number + at.offset ≡ l + i
  pub inside : at.offset < size_rule (rule_of bs number)

pub place-in : (i r l : ℕ) (bs : List Rule) (at : Place) → place_in i r bs ≡ some at → Lies i r l bs at
unfolding place_in place rule_of
place-in i r l [] at e = none-some e
place-in i r l (b ∷ bs) at e = go (λ h. place-in (i - size_rule b) (suc r) (l + size_rule b) bs at h) (ltb i (size_rule b)) refl e
  where
    here : Place
    here = record { rule = r; offset = i }

    go : (place_in (i - size_rule b) (suc r) bs ≡ some at → Lies (i - size_rule b) (suc r) (l + size_rule b) bs at)
        → (t : Bool) → ltb i (size_rule b) ≡ t → (if t then some here else place_in (i - size_rule b) (suc r) bs) ≡ some at → Lies i r l (b ∷ bs) at
    go ih true d e₁ =
        let x : here ≡ at = some_inj e₁ in
        let y : i < size_rule b = ltb-true i (size_rule b) d in
        rw (← x) (record { number = 0; rule = omega arith; there = omega arith; location = refl; inside = y })
    go ih false d e₁ =
        let h = ih e₁ in
        let y : size_rule b ≤ i = ltb-false i (size_rule b) d in
        record {
          number = suc h.number;
          rule = omega (arith, h.rule);
          there = omega (arith, h.there);
          location = omega (arith, h.location, y);
          inside = h.inside;
        }

pub record LiesIn (prog : List Rule) (l : ℕ) (at : Place) : Type 0 where
  pub there : at.rule < length prog
  pub location : place 1 prog at.rule + at.offset ≡ l
  pub inside : at.offset < size_rule (rule_of prog at.rule)

pub place-of : (prog : List Rule) (l : ℕ) (at : Place) → place_of prog l ≡ some at → LiesIn prog l at
unfolding place_of
place-of prog zero at e = none-some e
place-of prog (suc i) at e =
    let h = place-in i 0 1 prog at e in
    let x : h.number ≡ at.rule = omega (arith, h.rule) in
    record {
      there = rw x at h.there;
      location = omega (arith, rw x at h.location);
      inside = rw x at h.inside;
    }
