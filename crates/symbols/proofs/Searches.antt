-- Laws of the searches through the row of declarations: each goes on to the next declaration, or ends at this one.
use mathlib.Core.Bool.{Bool, true, false, ◌&&◌, ◌||◌}
use mathlib.Core.List.{List, [], ◌∷◌, ◌++◌}
use mathlib.Core.Logic.{◌⊎◌, inl, inr}
use mathlib.Core.Option.{Option, none, some}
use mathlib.Core.Path.{◌≡◌, refl, ap, sym, ◌∙◌}
use Prim.Native.Nat.{ℕ, zero, suc, ◌+◌, ◌*◌, ◌-◌, ◌≤◌, ◌<◌}
use native.Mathlib.Numerals.{add-one}
use native.Mathlib.Omega.{arith}
use lib.Dec.{eqb}
use borrow.Author.Tests.{eq-eqb, ne_eqb}
use lib.ListN.{length, get_or}
use Rattle.std.specs.Prelude.{if◌then◌else◌, Option as Answer, Some, None, is_some}
use Rattle.std.proofs.lemmas.Option.{none-some, same_Some}
use Rattle.base.proofs.Laws.{lt-or-le}
use Rattle.base.specs.Bools.{or₁, or₂}
use Rattle.base.specs.Common.{same, member, given}
use Rattle.declarations.specs.Decls.{Decl, decl_of, feeds, knowns_of, knowns_in, index_of, declared_in}
use Rattle.names.specs.Known.{Known, find, is_word}
use Rattle.names.specs.Declare.{values_of}
use Rattle.symbols.specs.Rows.{decl_at, held_from, held, number_of, answer_of}
use Rattle.symbols.specs.Search.{serves, knows, named, declares, counts, Tells, there, nowhere}
use Rattle.words.specs.Words.{Word}

pub held_next : (text rows : List ℕ) (i n : ℕ) → i < n → held_from text rows i (n - i) ≡ decl_at text rows i ∷ held_from text rows (suc i) (n - suc i)
unfolding held_from
held_next text rows i n h = ap (held_from text rows i) more where
  more : n - i ≡ suc (n - suc i)
  more = omega arith

pub held-end : (text rows : List ℕ) (i n : ℕ) → n ≤ i → held_from text rows i (n - i) ≡ []
unfolding held_from
held-end text rows i n h = ap (held_from text rows i) done where
  done : n - i ≡ 0
  done = omega arith

-- as many as are asked for, and declaration i of them

pub held-length : (text rows : List ℕ) (k n : ℕ) → length (held_from text rows k n) ≡ n
unfolding held_from
held-length text rows k zero = refl
held-length text rows k (suc n) = ap suc (held-length text rows (suc k) n)

held_from-at : (text rows : List ℕ) (k n i : ℕ) → i < n → decl_of (held_from text rows k n) i ≡ decl_at text rows (k + i)
unfolding held_from decl_of
held_from-at text rows k zero i h = absurd (omega arith)
held_from-at text rows k (suc n) zero h = ap (decl_at text rows) (omega arith)
held_from-at text rows k (suc n) (suc i) h = held_from-at text rows (suc k) n i (omega arith) ∙ ap (decl_at text rows) (omega arith)

pub held_at : (text rows : List ℕ) (n i : ℕ) → i < n → decl_of (held text rows n) i ≡ decl_at text rows i
unfolding held
held_at text rows n i h = held_from-at text rows 0 n i h ∙ ap (decl_at text rows) (omega arith)

-- a search F for the first declaration that t holds of, which has h; z where there is none
pub record Search {X : Type 0} (F : ℕ → List Decl → X) (t : Decl → Bool) (h : ℕ → Decl → X) (z : X) : Type 0 where
  pub nil : (i : ℕ) → F i [] ≡ z
  pub cons : (i : ℕ) (d : Decl) (ds : List Decl) → F i (d ∷ ds) ≡ (if t d then h i d else F (suc i) ds)

-- what a search finds from declaration i on
abbrev pub From : {X : Type 0} → (ℕ → List Decl → X) → List ℕ → List ℕ → ℕ → ℕ → X
From F text rows i n = F i (held_from text rows i (n - i))

module _ {X : Type 0} {F : ℕ → List Decl → X} {t : Decl → Bool} {h : ℕ → Decl → X} {z : X} (s : Search F t h z) (text rows : List ℕ) where
  pub start : (n : ℕ) → F 0 (held text rows n) ≡ From F text rows 0 n
  unfolding held
  start n = ap (λ (k : ℕ). F 0 (held_from text rows 0 k)) none-off where
    none-off : n ≡ n - 0
    none-off = omega arith

  pub hit : (i n : ℕ) → i < n → t (decl_at text rows i) ≡ true → From F text rows i n ≡ h i (decl_at text rows i)
  hit i n l e = rw (held_next text rows i n l) (s.cons i _ _ ∙ rw e refl)

  pub miss : (i n : ℕ) → i < n → t (decl_at text rows i) ≡ false → From F text rows i n ≡ From F text rows (i + 1) n
  miss i n l e = rw (add-one, held_next text rows i n l) (s.cons i _ _ ∙ rw e refl)

  pub end : (i n : ℕ) → n ≤ i → From F text rows i n ≡ z
  end i n l = rw (held-end text rows i n l) (s.nil i)

-- the searches

choose : {A : Type 0} (s y : Bool) (a x z : A) → x ≡ (if y then a else z) → (if s then a else x) ≡ (if s || y then a else z)
choose true y a x z e = refl
choose false y a x z e = e

find-second : (w : List ℕ) (v : ℕ) (o : Option Word) (later : List Known)
    → find w (elim o [ none ↦ [] | some u ↦ record { named = u.text; value = v } ∷ [] ] ++ later) ≡ (if is_word w o then some v else find w later)
unfolding find is_word
find-second w v none later = refl
find-second w v (some u) later = refl

find-cons : (c : ℕ) (w : List ℕ) (d : Decl) (ds : List Decl) → find w (knowns_in c (d ∷ ds)) ≡ (if knows c w d then some d.value else find w (knowns_in c ds))
unfolding find knowns_in knowns_of knows
find-cons c w d ds = go (feeds c d) where
  go : (b : Bool) → find w (if b then knowns_of d ++ knowns_in c ds else knowns_in c ds)
      ≡ (if b && (same w d.name.text || is_word w d.second) then some d.value else find w (knowns_in c ds))
  go false = refl
  go true = choose (same w d.name.text) (is_word w d.second) (some d.value) _ (find w (knowns_in c ds)) (find-second w d.value d.second (knowns_in c ds))

pub by_value : (c : ℕ) (w : List ℕ) → Search (λ i ds. find w (knowns_in c ds)) (knows c w) (λ i d. some d.value) none
unfolding find knowns_in
by_value c w = record { nil = λ i. refl; cons = λ i d ds. find-cons c w d ds }

pub by_name : (c : ℕ) (w : List ℕ) → Search (index_of c w) (named c w) (λ i d. some i) none
unfolding index_of named
by_name c w = record { nil = λ i. refl; cons = λ i d ds. refl }

or-if : (a b : Bool) → (a || b) ≡ (if a then true else b)
or-if true b = refl
or-if false b = refl

declared-cons : (w : List ℕ) (d : Decl) (ds : List Decl) → declared_in w (d ∷ ds) ≡ (if declares w d then true else declared_in w ds)
unfolding declared_in declares
declared-cons w d ds = or-if (declares w d) (declared_in w ds)

pub by_word : (w : List ℕ) → Search (λ i ds. declared_in w ds) (declares w) (λ i d. true) false
unfolding declared_in
by_word w = record { nil = λ i. refl; cons = λ i d ds. declared-cons w d ds }

twice : (a b : Bool) → (if a then true else if a then true else b) ≡ (if a then true else b)
twice true b = refl
twice false b = refl

number-cons : (c v : ℕ) (d : Decl) (ds : List Decl)
    → member v (values_of (knowns_in c (d ∷ ds))) ≡ (if counts c v d.class d.value then true else member v (values_of (knowns_in c ds)))
unfolding values_of knowns_in knowns_of counts serves feeds
number-cons c v d ds = go (feeds c d) d.second where
  go : (b : Bool) (o : Option Word)
      → member v (values_of (if b then (record { named = d.name.text; value = d.value } ∷ elim o [ none ↦ [] | some w ↦ record { named = w.text; value = d.value } ∷ [] ]) ++ knowns_in c ds else knowns_in c ds))
      ≡ (if b && eqb v d.value then true else member v (values_of (knowns_in c ds)))
  go false o = refl
  go true none = refl
  go true (some w) = twice (eqb v d.value) (member v (values_of (knowns_in c ds)))

pub by_number : (c v : ℕ) → Search (λ i ds. member v (values_of (knowns_in c ds))) (λ d. counts c v d.class d.value) (λ i d. true) false
unfolding values_of knowns_in
by_number c v = record { nil = λ i. refl; cons = λ i d ds. number-cons c v d ds }

-- answers

pub told-number : {r : ℕ} {o : Option ℕ} → Tells r o → r ≡ number_of o
told-number (there e l) = e
told-number (nowhere e) = e

pub tells-there : (r v : ℕ) (o : Option ℕ) → o ≡ some v → r ≡ v → r < 65536 → Tells r o
tells-there r v o e f l = rw e (there f (omega arith))

pub tells-nowhere : (r : ℕ) (o : Option ℕ) → o ≡ none → r ≡ 65536 → Tells r o
tells-nowhere r o e f = rw e (nowhere f)

-- a number that is there, and none
pub answers-there : (r v : ℕ) (o : Option ℕ) → o ≡ some v → r ≡ v → Some r ≡ answer_of o
answers-there r v o e f = rw (e, f) refl

pub answers-nowhere : (o : Option ℕ) → o ≡ none → None ≡ answer_of o
answers-nowhere o e = rw e refl

pub answer-some : {v : ℕ} (o : Option ℕ) → Some v ≡ answer_of o → o ≡ some v
answer-some {v = v} none e = absurd (none-some v (sym e))
answer-some {v = v} (some u) e = ap some (sym (same_Some v u e))

pub answer-none : (o : Option ℕ) → None ≡ answer_of o → o ≡ none
answer-none none e = refl
answer-none (some u) e = absurd (none-some u e)

pub answer-given : {r : Answer ℕ} (o : Option ℕ) → r ≡ answer_of o → is_some r ≡ given o
answer-given o e = rw e (go o) where
  go : (o : Option ℕ) → is_some (answer_of o) ≡ given o
  go none = refl
  go (some v) = refl

-- one of two neighbours
pub one_of_two : (n c : ℕ) → n ≤ c → c ≤ n + 1 → (eqb c n || eqb c (n + 1)) ≡ true
one_of_two n c l h = go (lt-or-le n c) where
  go : (n < c) ⊎ (c ≤ n) → (eqb c n || eqb c (n + 1)) ≡ true
  go (inl m) = or₂ (eqb c n) _ (eq-eqb c (n + 1) (omega (arith, m, h)))
  go (inr m) = or₁ (eqb c n) _ (eq-eqb c n (omega (arith, m, l)))

-- a declaration's class, in the row

pub class-at : (text rows : List ℕ) (i : ℕ) → (decl_at text rows i).class ≡ get_or rows (8 * i) 0
unfolding decl_at
class-at text rows i = refl

pub feeds-at : (text rows : List ℕ) (i c : ℕ) → feeds c (decl_at text rows i) ≡ serves c (get_or rows (8 * i) 0)
unfolding decl_at feeds serves
feeds-at text rows i c = refl

-- a row of another value, or of this one

pub counts-other : (c v d u x : ℕ) → x ≡ u → (v ≡ x → ⊥) → false ≡ counts c v d u
unfolding counts
counts-other c v d u x e n = go (serves c d) (eqb v u) (ne_eqb v u (λ z. n (z ∙ sym e))) where
  go : (a b : Bool) → b ≡ false → false ≡ (a && b)
  go true b q = sym q
  go false b q = refl

pub counts-own : (c v d u x y : ℕ) → x ≡ u → v ≡ x → y ≡ d → (r : Bool) → r ≡ serves c y → r ≡ counts c v d u
unfolding counts
counts-own c v d u x y e f g r q = (q ∙ ap (serves c) g) ∙ go (serves c d) (eqb v u) (eq-eqb v u (f ∙ e)) where
  go : (a b : Bool) → b ≡ true → a ≡ (a && b)
  go true b p = sym p
  go false b p = refl
