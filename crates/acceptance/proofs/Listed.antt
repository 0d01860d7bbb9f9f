-- What the check for 45 leaves: no token stands twice in an operators section.
use mathlib.Core.Bool.{false, ◌||◌, not}
use mathlib.Core.List.{List, [], ◌∷◌, ◌++◌}
use mathlib.Core.Option.{Option, none, some}
use mathlib.Core.Path.{◌≡◌, refl, sym, ap, ◌∙◌}
use Prim.Native.Nat.{ℕ}
use lib.Dec.{eqb}
use borrow.Author.Tests.{eqb-false, ne_eqb}
use Rattle.acceptance.proofs.CheckLaws.{Yields, no-good, yields, next, passed, Any, any}
use Rattle.acceptance.proofs.NamesOk.{each_append, picked, none-some}
use Rattle.acceptance.proofs.Shape.{Each}
use Rattle.base.proofs.Laws.{neither}
use Rattle.base.specs.Common.{same, given}
use Rattle.names.specs.Declare.{declare_all, declare_both, declare_operations, with_operations, inputs_of, outputs_of, other_side, listed, operator_of, operators_of, declare_section, declare_sections}
use Rattle.names.specs.Known.{Checked, good, Known, KnownOperators, Names, find, find_type, find_operation, find_operators, declared, elsewhere, lookup, optional_type}
use Rattle.names.specs.Uses.{Use, levels_used}
use Rattle.program.specs.Made.{Operator, Level, levels_of}
use Rattle.syntax.specs.Written as written
use Rattle.syntax.specs.Written.{Operation, Section, inputs, outputs, both, errors, values, operations, operators, Program}
use Rattle.words.specs.Words.{Word}

-- no token stands twice
unfoldable pub Distinct : List Operator → Type 0
Distinct [] = Unit {0}
Distinct (o ∷ os) = (listed (some o.token) os ≡ false) × Distinct os

eqb-sym : (a b : ℕ) → eqb a b ≡ false → eqb b a ≡ false
eqb-sym a b e = ne_eqb b a (λ q. eqb-false a b e (sym q))

listed_more : (t : ℕ) (os : List Operator) (o : Operator) → listed (some t) os ≡ false → eqb t o.token ≡ false → listed (some t) (os ++ (o ∷ [])) ≡ false
unfolding listed
listed_more t [] o h e = rw e refl
listed_more t (x ∷ os) o h e = let y = neither (eqb t x.token) (listed (some t) os) h in rw y.0 (listed_more t os o y.1 e)

distinct_more : (os : List Operator) (o : Operator) → Distinct os → listed (some o.token) os ≡ false → Distinct (os ++ (o ∷ []))
unfolding Distinct listed
distinct_more [] o d h = (refl, tt)
distinct_more (x ∷ os) o d h =
    let y = neither (eqb o.token x.token) (listed (some o.token) os) h in
    (listed_more x.token os o d.0 (eqb-sym o.token x.token y.0), distinct_more os o d.1 y.1)

abbrev Fresh : List Operator → Operator → Type 0
Fresh have o = listed (some o.token) have ≡ false

found : (p : Program) (ks : List Known) (w : Word) → Yields (λ v. find w.text ks ≡ some v) (lookup p ks w)
unfolding lookup elsewhere
found p ks w v e = go (find w.text ks) e
  where
    go : (o : Option ℕ) → elim o as (λ _. Checked ℕ) [ some x ↦ good x | none ↦ elsewhere p w ] ≡ good v → o ≡ some v
    go none d = no-good d
    go (some x) d = let y : x ≡ v = cc in ap some y

fresh : (p : Program) (e : written.Operator) (have : List Operator) → Yields (Fresh have) (operator_of p e have)
unfolding operator_of
fresh p e have =
    passed (Fresh have) (not (declared p e.token.text)) 3 e.token _ (λ _.
    passed (Fresh have) (other_side e have || listed (find e.token.text (inputs_of p.sections)) have) 45 e.token _ (λ h.
    next (Fresh have) (λ t. find e.token.text (inputs_of p.sections) ≡ some t) (lookup p (inputs_of p.sections) e.token) _ (found p (inputs_of p.sections) e.token) (λ t ht.
    next (Fresh have) (λ _. Unit {0}) (lookup p (outputs_of p.sections) e.emits) _ (λ _ _. tt) (λ o _.
    yields (Fresh have) (record { token = t; level = e.level; right = e.right; emits = o })
    (ap (λ (x : Option ℕ). listed x have) (sym ht) ∙ (neither (other_side e have) (listed (find e.token.text (inputs_of p.sections)) have) h).1)))))

distinct : (p : Program) (es : List written.Operator) (have : List Operator) → Distinct have → Yields Distinct (operators_of p es have)
unfolding operators_of
distinct p [] have d = yields Distinct have d
distinct p (e ∷ es) have d = next Distinct (Fresh have) (operator_of p e have) _ (fresh p e have) (λ o h. distinct p es (have ++ (o ∷ [])) (distinct_more have o d h))

-- Every section that is declared: what the levels of operators have of which no token stands twice

abbrev pub AllLevels : (List Level → Type 0) → Names → Type 0
AllLevels P n = Each (λ k. P k.levels) n.operators

module _ (P : List Level → Type 0) where
  module _ (h : (os : List Operator) → Distinct os → P (levels_of os)) where
    operations-levels : (p : Program) (os : List Operation) (n : Names) → AllLevels P n → Yields (AllLevels P) (declare_operations p os n)
    unfolding declare_operations
    operations-levels p [] n k = yields (AllLevels P) n k
    operations-levels p (o ∷ os) n k =
        passed (AllLevels P) (given (find_operation o.operation.text n.operations) || given (find o.operation.text n.inputs)) 4 o.operation _ (λ _.
        next (AllLevels P) Any (optional_type p n.types o.takes) _ (any (optional_type p n.types o.takes)) (λ t _.
        next (AllLevels P) Any (optional_type p n.types o.gives) _ (any (optional_type p n.types o.gives)) (λ g _.
        operations-levels p os (with_operations n (n.operations ++ (record { named = o.operation.text; instruction = o.instruction; takes = t; gives = g } ∷ []))) k)))

    section-levels : (p : Program) (s : Section) (n : Names) → AllLevels P n → Yields (AllLevels P) (declare_section p s n)
    unfolding declare_section Each Distinct
    section-levels p (inputs es) n k = next (AllLevels P) Any (declare_all es n.inputs n.operations) _ (any (declare_all es n.inputs n.operations)) (λ ks _. yields (AllLevels P) _ k)
    section-levels p (outputs es) n k = next (AllLevels P) Any (declare_all es n.outputs []) _ (any (declare_all es n.outputs [])) (λ ks _. yields (AllLevels P) _ k)
    section-levels p (both es) n k =
        next (AllLevels P) Any (declare_both es n.inputs n.outputs n.operations) _ (any (declare_both es n.inputs n.outputs n.operations)) (λ ks _. yields (AllLevels P) _ k)
    section-levels p (errors es) n k = next (AllLevels P) Any (declare_all es n.errors []) _ (any (declare_all es n.errors [])) (λ ks _. yields (AllLevels P) _ k)
    section-levels p (values w es) n k =
        passed (AllLevels P) (given (find_type w.text n.types)) 4 w _ (λ _.
        next (AllLevels P) Any (declare_all es [] []) _ (any (declare_all es [] [])) (λ ks _. yields (AllLevels P) _ k))
    section-levels p (operations os) n k = operations-levels p os n k
    section-levels p (operators w es) n k =
        passed (AllLevels P) (given (find_operators w.text n.operators)) 4 w _ (λ _.
        next (AllLevels P) Distinct (operators_of p es []) _ (distinct p es [] tt) (λ os d.
        yields (AllLevels P) _ (each_append (λ k. P k.levels) n.operators _ k (h os d, tt))))

    pub sections-levels : (p : Program) (ss : List Section) (n : Names) → AllLevels P n → Yields (AllLevels P) (declare_sections p ss n)
    unfolding declare_sections
    sections-levels p [] n k = yields (AllLevels P) n k
    sections-levels p (s ∷ ss) n k = next (AllLevels P) (AllLevels P) (declare_section p s n) _ (section-levels p s n k) (λ m hm. sections-levels p ss m hm)

  found-levels : (w : List ℕ) (ks : List KnownOperators) (ls : List Level) → Each (λ k. P k.levels) ks → find_operators w ks ≡ some ls → P ls
  unfolding Each find_operators
  found-levels w [] ls h e = none-some e
  found-levels w (k ∷ ks) ls h e = picked P (same w k.named) k.levels ls (find_operators w ks) h.0 (found-levels w ks ls h.1) e

  -- so those of a section that is used
  pub used-have : (n : Names) (u : Use) → P [] → AllLevels P n → P (levels_used n u)
  unfolding levels_used
  used-have n u z h = go (find_operators u.section.text n.operators) refl
    where
      go : (x : Option (List Level)) → find_operators u.section.text n.operators ≡ x → P (elim x as (λ _. List Level) [ some ls ↦ ls | none ↦ [] ])
      go none e = z
      go (some ls) e = found-levels u.section.text n.operators ls h e
