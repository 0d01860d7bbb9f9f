-- Where each section of operators has its entries at its place, its row says where.
use mathlib.Core.Bool.{Bool, true, false}
use mathlib.Core.List.{List, [], ◌∷◌, ◌++◌, append_assoc}
use mathlib.Core.Path.{◌≡◌, refl, sym, ap, ◌∙◌}
use Prim.Native.Nat.{ℕ, zero, suc, ◌+◌, ◌≤◌}
use native.Mathlib.Omega.{arith}
use lib.Dec.{eqb}
use lib.ListN.{length}
use borrow.Author.Tests.{eq-eqb, ne_eqb, eqb-true}
use Rattle.base.specs.Bools.{never}
use Rattle.collector.specs.Collecting.{AllStand, all_none, all_more, Stands}
use Rattle.declarations.proofs.Whole.{length-section}
use Rattle.declarations.specs.Decls.{Decl, decl_of, entry_decls, operation_decls, of_operators, of_type, section_decls, sections_decls, rule_decls, entries_or, entries_from, EntriesAt}
use Rattle.grammar.specs.Derived.{OperatorsIn, names_in_all}
use Rattle.syntax.specs.Written.{Entry, Operation, Operator, Section, inputs, outputs, both, errors, values, operations, operators, Rule}
use Rattle.words.specs.Words.{Word, words_at}

-- Places

-- the entries es stand at the place of declaration i
record Standing (text : List ℕ) (ds : List Decl) (i : ℕ) (es : List Operator) : Type 0 where
  pub left : List Word
  pub stand : OperatorsIn (words_at text (decl_of ds i).value) left es

-- declaration i of front ++ bs is of bs
record Behind (front bs : List Decl) (i : ℕ) : Type 0 where
  pub k : ℕ
  pub place : i ≡ length front + k
  pub decl : decl_of (front ++ bs) i ≡ decl_of bs k

past_one : {front bs : List Decl} {i : ℕ} (a : Decl) → Behind front bs i → Behind (a ∷ front) bs (suc i)
unfolding decl_of
past_one a b = record { k = b.k; place = omega (arith, b.place); decl = b.decl }

past-entries : (c : ℕ) (es : List Entry) (bs : List Decl) (i : ℕ) → (c ≡ 600 → ⊥) → (decl_of (entry_decls c es ++ bs) i).class ≡ 600 → Behind (entry_decls c es) bs i
unfolding entry_decls decl_of
past-entries c [] bs i d e = record { k = i; place = omega arith; decl = refl }
past-entries c (x ∷ es) bs zero d e = absurd (d e)
past-entries c (x ∷ es) bs (suc i) d e = past_one _ (past-entries c es bs i d e)

past-operations : (os : List Operation) (bs : List Decl) (i : ℕ) → (decl_of (operation_decls os ++ bs) i).class ≡ 600 → Behind (operation_decls os) bs i
unfolding operation_decls decl_of
past-operations [] bs i e = record { k = i; place = omega arith; decl = refl }
past-operations (o ∷ os) bs zero e = absurd (omega (arith, e))
past-operations (o ∷ os) bs (suc i) e = past_one _ (past-operations os bs i e)

no-rule : (k : ℕ) (rs : List Rule) (i : ℕ) → (decl_of (rule_decls k rs) i).class ≡ 600 → ⊥
unfolding rule_decls decl_of
no-rule k [] i e = omega (arith, e)
no-rule k (r ∷ rs) zero e = omega (arith, e)
no-rule k (r ∷ rs) (suc i) e = no-rule (suc k) rs i e

moved : (text : List ℕ) {d d₁ : Decl} {left : List Word} {es es₁ : List Operator} → d ≡ d₁ → es ≡ es₁ → OperatorsIn (words_at text d₁.value) left es₁ → OperatorsIn (words_at text d.value) left es
moved text p q h = rw (p, q) h

-- the declarations `front` are passed; j is how many stand before them
onward : {text : List ℕ} {front bs : List Decl} {i : ℕ} (j : ℕ) (xs : List Section) → Behind front bs i
    → ((k : ℕ) → (decl_of bs k).class ≡ 600 → Standing text bs k (entries_from (j + length front) xs (j + length front + k)))
    → (decl_of (front ++ bs) i).class ≡ 600 → Standing text (front ++ bs) i (entries_from (j + length front) xs (j + i))
onward {text} {front} {i = i} j xs b f e =
    let g = f b.k (ap (λ (d : Decl). d.class) (sym b.decl) ∙ e) in
    let z : j + i ≡ j + length front + b.k = omega (arith, b.place) in
    record { left = g.left; stand = moved text b.decl (ap (λ (m : ℕ). entries_from (j + length front) xs m) z) g.stand }

module _ {text : List ℕ} (ds : List Decl) (none : (i : ℕ) → (decl_of ds i).class ≡ 600 → ⊥) where
  -- the declarations of one section, then those of the others
  section : (j : ℕ) (x : Section) (xs : List Section) → Stands text x → j ≤ 512 → (bs : List Decl)
      → ((k : ℕ) → (decl_of bs k).class ≡ 600 → Standing text bs k (entries_from (j + length (section_decls j x)) xs (j + length (section_decls j x) + k)))
      → (i : ℕ) → (decl_of (section_decls j x ++ bs) i).class ≡ 600 → Standing text (section_decls j x ++ bs) i (entries_from j (x ∷ xs) (j + i))
  unfolding section_decls entries_from entries_or decl_of
  section j (inputs es) xs s l bs f i e = onward j xs (past-entries 1 es bs i (λ z. omega (arith, z)) e) f e
  section j (outputs es) xs s l bs f i e = onward j xs (past-entries 2 es bs i (λ z. omega (arith, z)) e) f e
  section j (both es) xs s l bs f i e = onward j xs (past-entries 3 es bs i (λ z. omega (arith, z)) e) f e
  section j (errors es) xs s l bs f i e = onward j xs (past-entries 4 es bs i (λ z. omega (arith, z)) e) f e
  section j (values w es) xs s l bs f zero e = absurd (omega (arith, e))
  section j (values w es) xs s l bs f (suc i) e = onward j xs (past_one (of_type w) (past-entries (8 + j) es bs i (λ z. omega (arith, z, l)) e)) f e
  section j (operations os) xs s l bs f i e = onward j xs (past-operations os bs i e) f e
  section j (operators w os) xs s l bs f zero e = record { left = s.left; stand = rw (eq-eqb (j + 0) j (omega arith)) s.again }
  section j (operators w os) xs s l bs f (suc i) e = rw (ne_eqb (j + suc i) j (λ z. omega (arith, z))) (onward {front = of_operators w os ∷ []} j xs (record { k = i; place = omega arith; decl = refl }) f e)

  sections : (j : ℕ) (xs : List Section) → AllStand text xs → j + names_in_all xs ≤ 512 → (i : ℕ) → (decl_of (sections_decls j xs ++ ds) i).class ≡ 600
      → Standing text (sections_decls j xs ++ ds) i (entries_from j xs (j + i))
  unfolding sections_decls names_in_all
  sections j [] all_none l i e = absurd (none i e)
  sections j (x ∷ xs) (all_more s r) l i e =
      let a = append_assoc (section_decls j x) (sections_decls (j + length (section_decls j x)) xs) ds in
      rw a (section j x xs s (omega (arith, l)) (sections_decls (j + length (section_decls j x)) xs ++ ds) (sections (j + length (section_decls j x)) xs r (omega (arith, l, length-section j x))) i (rw a at e))

-- declaration i, where it is of a section of operators
record Pick (text : List ℕ) (ds : List Decl) (entries : ℕ → List Operator) (i : ℕ) : Type 0 where
  pub left : List Word
  pub stand : eqb (decl_of ds i).class 600 ≡ true → OperatorsIn (words_at text (decl_of ds i).value) left (entries i)

picked : {text : List ℕ} {ds : List Decl} {entries : ℕ → List Operator} → ((i : ℕ) → (decl_of ds i).class ≡ 600 → Standing text ds i (entries i)) → EntriesAt text ds entries
picked {text} {ds} {entries} f = record { behind = λ i. (pick i).left; stand = λ i e. (pick i).stand (eq-eqb (decl_of ds i).class 600 e) } where
  pick : (i : ℕ) → Pick text ds entries i
  pick i = go (eqb (decl_of ds i).class 600) refl where
    go : (b : Bool) → eqb (decl_of ds i).class 600 ≡ b → Pick text ds entries i
    go true e = let g = f i (eqb-true (decl_of ds i).class 600 e) in record { left = g.left; stand = λ z. g.stand }
    go false e = record { left = []; stand = λ z. never (sym e ∙ z) }

pub entries_at : {text : List ℕ} (xs : List Section) (rs : List Rule) → AllStand text xs → names_in_all xs ≤ 512 → EntriesAt text (sections_decls 0 xs ++ rule_decls 0 rs) (λ i. entries_from 0 xs i)
entries_at {text} xs rs s l = picked (λ i e. at_zero i (sections (rule_decls 0 rs) (no-rule 0 rs) 0 xs s (omega (arith, l)) i e)) where
  at_zero : (i : ℕ) → Standing text (sections_decls 0 xs ++ rule_decls 0 rs) i (entries_from 0 xs (0 + i)) → Standing text (sections_decls 0 xs ++ rule_decls 0 rs) i (entries_from 0 xs i)
  at_zero i h = let z : 0 + i ≡ i = omega arith in rw z at h
