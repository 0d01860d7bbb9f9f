-- A program in which each section of operators has its first entry alone, and so one level, has the same declarations.
use mathlib.Core.Bool.{Bool, true, false}
use mathlib.Core.List.{List, [], ◌∷◌}
use mathlib.Core.Option.{Option, none, some}
use mathlib.Core.Path.{◌≡◌, refl, sym, ap, ◌∙◌}
use Prim.Native.Nat.{ℕ, zero, suc, ◌+◌, ◌<◌, ◌≤◌}
use native.Mathlib.Decide.{dec_lt}
use native.Mathlib.Omega.{arith}
use borrow.Author.Tests.{eq-eqb, ne_eqb}
use lib.Dec.{eqb}
use lib.ListN.{length}
use Rattle.base.proofs.Laws.{same-eq}
use Rattle.std.specs.Prelude.{if◌then◌else◌}
use Rattle.base.specs.Common.{same}
use Rattle.declarations.proofs.Declaring.{entry-means, value_found}
use Rattle.declarations.specs.Decls.{Agrees, Decl, EntriesAt, entries_or, entries_from, entries_of, index_of, mapped, operator_from, operators_from, operator_in, operators_in, section_decls}
use Rattle.grammar.specs.Derived.{one_operator, OperatorsIn, last_operator, more_operators}
use Rattle.maker.proofs.Taking.{row_at}
use Rattle.names.specs.Known.{Checked, good, wrong, ◌>>=◌, KnownOperators, KnownRule, Names, find_operators, in_section, in_sections, declared, is_type}
use Rattle.parts.proofs.Alike.{OneEach, nowhere, there, one_each_lem}
use Rattle.parts.specs.Objects.{one_each}
use Rattle.partpairs.proofs.Same.{Levelled, neither, both, with_operators, with_sections}
use Rattle.program.specs.Made as made
use Rattle.program.specs.Made.{Level, at_level, level_and, levels_from, levels_of}
use Rattle.syntax.specs.Written.{Operator, Section, inputs, outputs, values, operations, operators, errors, Program}
use Rattle.syntax.specs.Written as written
use Rattle.words.specs.Words.{Word}

unfoldable pub first_of : List Operator → List Operator
first_of [] = []
first_of (e ∷ es) = e ∷ []

unfoldable pub first_in : Section → Section
first_in (inputs es) = inputs es
first_in (outputs es) = outputs es
first_in (written.both es) = written.both es
first_in (errors es) = errors es
first_in (values w es) = values w es
first_in (operations os) = operations os
first_in (operators w es) = operators w (first_of es)

unfoldable pub first_entries : List Section → List Section
first_entries [] = []
first_entries (s ∷ ss) = first_in s ∷ first_entries ss

-- the levels of the section of a name, by the entries `en` of its declaration
unfoldable pub levels_named : List Decl → (ℕ → List Operator) → List ℕ → List Level
levels_named ds en w = elim (index_of 600 w 0 ds) [ some i ↦ levels_of (operators_from ds (en i)) | none ↦ [] ]

unfoldable pub first_levels : List Decl → (ℕ → List Operator) → List KnownOperators → List KnownOperators
first_levels ds en [] = []
first_levels ds en (k ∷ ks) = record { named = k.named; levels = levels_named ds en k.named } ∷ first_levels ds en ks

-- What is declared

in-section : (w : List ℕ) (s : Section) → in_section w (first_in s) ≡ in_section w s
unfolding in_section first_in
in-section w (inputs es) = refl
in-section w (outputs es) = refl
in-section w (written.both es) = refl
in-section w (errors es) = refl
in-section w (values t es) = refl
in-section w (operations os) = refl
in-section w (operators t os) = refl

in-sections : (w : List ℕ) (ss : List Section) → in_sections w (first_entries ss) ≡ in_sections w ss
unfolding in_sections first_entries
in-sections w [] = refl
in-sections w (s ∷ ss) = rw (in-section w s, in-sections w ss)

pub first-declared : (p : Program) (w : List ℕ) → declared (with_sections p (first_entries p.sections)) w ≡ declared p w
unfolding declared
first-declared p w = rw (in-sections w p.sections)

first-type : (w : List ℕ) (ss : List Section) → is_type w (first_entries ss) ≡ is_type w ss
unfolding is_type first_entries first_in
first-type w [] = refl
first-type w (inputs es ∷ ss) = first-type w ss
first-type w (outputs es ∷ ss) = first-type w ss
first-type w (written.both es ∷ ss) = first-type w ss
first-type w (errors es ∷ ss) = first-type w ss
first-type w (values t es ∷ ss) = rw (first-type w ss)
first-type w (operations os ∷ ss) = first-type w ss
first-type w (operators t os ∷ ss) = first-type w ss

-- Entries

first-entries : (j : ℕ) (ss : List Section) (i : ℕ) → entries_from j (first_entries ss) i ≡ first_of (entries_from j ss i)
unfolding entries_from entries_or first_entries first_in section_decls first_of
first-entries j [] i = refl
first-entries j (inputs es ∷ ss) i = first-entries (j + length (section_decls j (inputs es))) ss i
first-entries j (outputs es ∷ ss) i = first-entries (j + length (section_decls j (outputs es))) ss i
first-entries j (written.both es ∷ ss) i = first-entries (j + length (section_decls j (written.both es))) ss i
first-entries j (errors es ∷ ss) i = first-entries (j + length (section_decls j (errors es))) ss i
first-entries j (values w es ∷ ss) i = first-entries (j + length (section_decls j (values w es))) ss i
first-entries j (operations os ∷ ss) i = first-entries (j + length (section_decls j (operations os))) ss i
first-entries j (operators w es ∷ ss) i = go (eqb i j) (entries_from (j + 1) (first_entries ss) i) (entries_from (j + 1) ss i) (first-entries (j + 1) ss i)
  where
    go : (t : Bool) (a b : List Operator) → a ≡ first_of b → (if t then first_of es else a) ≡ first_of (if t then es else b)
    go true a b e = refl
    go false a b e = e

-- the levels of one entry
module _ (o : made.Operator) where
  at_own : (l : ℕ) → o.level ≡ l → at_level l (o ∷ []) ≡ o ∷ []
  unfolding at_level
  at_own l e = rw (eq-eqb o.level l e) refl

  at_other : (l : ℕ) → (o.level ≡ l → ⊥) → at_level l (o ∷ []) ≡ []
  unfolding at_level
  at_other l e = rw (ne_eqb o.level l e) refl

  none_above : (n l : ℕ) → o.level < l → length (levels_from n l (o ∷ [])) ≡ 0
  unfolding levels_from level_and
  none_above zero l h = refl
  none_above (suc n) l h = rw (at_other l (λ e. omega (arith, e, h))) (none_above n (suc l) (omega (arith, h)))

  one_from : (n l : ℕ) → l ≤ o.level → o.level < l + n → length (levels_from n l (o ∷ [])) ≡ 1
  unfolding levels_from level_and
  one_from zero l h k = absurd (omega (arith, h, k))
  one_from (suc n) l h k = elim (dec_lt l o.level) [
    | yes y ↦ rw (at_other l (λ e. omega (arith, e, y))) (one_from n (suc l) (omega (arith, y)) (omega (arith, k)))
    | no y ↦ rw (at_own l (omega (arith, h, y))) (ap suc (none_above n (suc l) (omega (arith, y))))
  ]

  pub one-level : 1 ≤ o.level → o.level ≤ 15 → length (levels_of (o ∷ [])) ≡ 1
  unfolding levels_of
  one-level h k = one_from 15 1 h (omega (arith, k))

pub first-level : {ws ws' : List Word} (ds : List Decl) (es : List Operator) → OperatorsIn ws ws' es → length (levels_of (operators_from ds (first_of es))) ≡ 1
unfolding operators_from first_of
first-level ds _ (last_operator (one_operator r k q a b z y) t) = one-level _ a b
first-level ds _ (more_operators (one_operator r k q a b z y) n m) = one-level _ a b

-- the first entry has no fault
first_good : (ds : List Decl) (es : List Operator) (os : List made.Operator) → operators_in ds es [] ≡ good os → operators_in ds (first_of es) [] ≡ good (operators_from ds (first_of es))
unfolding operators_in operators_from first_of
first_good ds [] os h = refl
first_good ds (e ∷ es) os h = go (operator_in ds e []) refl h
  where
    is : (o : made.Operator) → operator_in ds e [] ≡ good o → o ≡ operator_from ds e
    is o q = let m = entry-means ds e [] o q in rw (value_found ds 1 e.token m.token, value_found ds 2 e.emits m.emits, m.level, m.right)

    go : (x : Checked made.Operator) → operator_in ds e [] ≡ x → ◌>>=◌ x (λ o. operators_in ds es (o ∷ [])) ≡ good os
        → ◌≡◌ {A = Checked (List made.Operator)} (◌>>=◌ x (λ o. good (o ∷ []))) (good (operator_from ds e ∷ []))
    go (good o) q k = ap (λ (y : made.Operator). good (y ∷ [])) (is o q)
    go (wrong n w) q k = let z : ◌≡◌ {A = ℕ} 0 1 = cc in absurd (omega (arith, z))

-- Sections by name

first_found : (ds : List Decl) (en : ℕ → List Operator) (ks : List KnownOperators) (w : List ℕ)
    → find_operators w (first_levels ds en ks) ≡ mapped (λ _. levels_named ds en w) (find_operators w ks)
unfolding find_operators first_levels
first_found ds en [] w = refl
first_found ds en (k ∷ ks) w = go (same w k.named) refl (first_found ds en ks w)
  where
    go : (t : Bool) → same w k.named ≡ t → find_operators w (first_levels ds en ks) ≡ mapped (λ _. levels_named ds en w) (find_operators w ks)
        → ◌≡◌ {A = Option (List Level)} (if t then some (levels_named ds en k.named) else find_operators w (first_levels ds en ks))
        (mapped (λ _. levels_named ds en w) (if t then some k.levels else find_operators w ks))
    go true e h = ap (λ (v : List ℕ). some (levels_named ds en v)) (sym (same-eq w k.named e))
    go false e h = h

first-operators : (ds : List Decl) (en : ℕ → List Operator) (f : ℕ → List Level) (ks : List KnownOperators) (w : List ℕ) → find_operators w ks ≡ mapped f (index_of 600 w 0 ds)
    → find_operators w (first_levels ds en ks) ≡ mapped (λ i. levels_of (operators_from ds (en i))) (index_of 600 w 0 ds)
unfolding levels_named
first-operators ds en f ks w h = first_found ds en ks w ∙ (ap (mapped (λ _. levels_named ds en w)) h ∙ go (index_of 600 w 0 ds) refl)
  where
    go : (x : Option ℕ) → index_of 600 w 0 ds ≡ x → mapped (λ _. levels_named ds en w) (mapped f x) ≡ mapped (λ i. levels_of (operators_from ds (en i))) x
    go none e = refl
    go (some i) e = rw (levels_named, e) refl

module _ {p : Program} {n : Names} {ks : List KnownRule} {ds : List Decl} (ag : Agrees p n ks ds) where
  abbrev pub one_entry : Program
  one_entry = with_sections p (first_entries p.sections)

  abbrev pub one_level : Names
  one_level = with_operators n (first_levels ds (entries_of one_entry) n.operators)

  entries-are : (i : ℕ) → entries_of one_entry i ≡ first_of (entries_of p i)
  unfolding entries_of
  entries-are i = first-entries 0 p.sections i

  pub first-agrees : Agrees one_entry one_level ks ds
  first-agrees = record {
    inputs = ag.inputs;
    outputs = ag.outputs;
    errors = ag.errors;
    types = ag.types;
    operations = ag.operations;
    operators = λ w. first-operators ds (entries_of one_entry) (λ i. levels_of (operators_from ds (entries_of p i))) n.operators w (ag.operators w);
    ranked = λ w i e. rw (entries-are i) (first_good ds (entries_of p i) _ (ag.ranked w i e));
    rules = ag.rules;
    declared = λ w. first-declared p w ∙ ag.declared w;
    is_type = λ w. first-type w p.sections ∙ ag.is_type w;
    nowhere = ag.nowhere;
  }

  -- where the entries stand in the text, there is one or more
  module _ {text : List ℕ} (en : EntriesAt text ds (entries_of p)) where
    pub found-one : (w : List ℕ) (i : ℕ) → index_of 600 w 0 ds ≡ some i → length (levels_of (operators_from ds (entries_of one_entry i))) ≡ 1
    found-one w i e = rw (entries-are i) (first-level ds (entries_of p i) (en.stand i (row_at 600 w i ds e).class))

    pub first-levelled : (w : List ℕ) → Levelled (first_levels ds (entries_of one_entry) n.operators) (one_each n.operators) w
    first-levelled w = go (index_of 600 w 0 ds) refl (one_each_lem w n.operators)
      where
        mine : find_operators w (first_levels ds (entries_of one_entry) n.operators) ≡ mapped (λ i. levels_of (operators_from ds (entries_of one_entry i))) (index_of 600 w 0 ds)
        mine = first-agrees.operators w

        theirs : find_operators w n.operators ≡ mapped (λ i. levels_of (operators_from ds (entries_of p i))) (index_of 600 w 0 ds)
        theirs = ag.operators w

        go : (x : Option ℕ) → index_of 600 w 0 ds ≡ x → OneEach w n.operators → Levelled (first_levels ds (entries_of one_entry) n.operators) (one_each n.operators) w
        go none e (nowhere a b) = neither (mine ∙ ap (mapped (λ i. levels_of (operators_from ds (entries_of one_entry i)))) e) a
        go none e (there ls₁ ls a l b) =
            let q : ◌≡◌ {A = Option (List Level)} none (some ls) = ap (mapped (λ i. levels_of (operators_from ds (entries_of p i)))) (sym e) ∙ (sym theirs ∙ b) in
            let z : ◌≡◌ {A = ℕ} 0 1 = cc in absurd (omega (arith, z))
        go (some i) e (nowhere a b) =
            let q : ◌≡◌ {A = Option (List Level)} (some (levels_of (operators_from ds (entries_of p i)))) none = ap (mapped (λ j. levels_of (operators_from ds (entries_of p j)))) (sym e) ∙ (sym theirs ∙ b) in
            let z : ◌≡◌ {A = ℕ} 0 1 = cc in absurd (omega (arith, z))
        go (some i) e (there ls₁ ls a l b) =
            both (levels_of (operators_from ds (entries_of one_entry i))) ls₁ (mine ∙ ap (mapped (λ j. levels_of (operators_from ds (entries_of one_entry j)))) e) a (found-one w i e ∙ sym l)
