-- The sections mean the same names whatever the rules are.
use mathlib.Core.Bool.{Bool, true, false, ◌||◌, not}
use mathlib.Core.List.{List, [], ◌∷◌, ◌++◌, append_assoc}
use mathlib.Core.Option.{Option, none, some}
use mathlib.Core.Path.{◌≡◌, refl, sym, ap, ◌∙◌}
use Prim.Native.Nat.{ℕ}
use native.Mathlib.Omega.{arith}
use Rattle.base.proofs.Laws.{neither}
use Rattle.base.specs.Bools.{or₁}
use Rattle.std.specs.Prelude.{if◌then◌else◌}
use Rattle.base.specs.Common.{same, given}
use Rattle.names.specs.Declare.{knowns, with_operations, declare_operations, all_knowns, inputs_of, outputs_of, other_side, listed, operator_of, operators_of, declare_section, declare_sections}
use Rattle.names.specs.Known.{Checked, good, wrong, Known, Names, find, find_operation, find_operators, is_word, among_entries, in_section, in_sections, among_rules, declared, elsewhere, lookup}
use Rattle.parts.proofs.Alike.{both-good, both-wrong, Like, like-next, like-if, id, lookup-alike, optional-alike}
use Rattle.program.specs.Made as made
use Rattle.syntax.specs.Written.{Entry, Operation, Operator, Section, inputs, outputs, both, errors, values, operations, operators, Rule, Program}
use Rattle.words.specs.Words.{Word}

-- An input token is declared

skip-one : (w : List ℕ) (k : Known) (ks : List Known) → same w k.named ≡ false → find w (k ∷ ks) ≡ find w ks
unfolding find
skip-one w k ks e = rw (find, e)

skip-entry : (w : List ℕ) (e : Entry) (ks : List Known) → same w e.entry.text ≡ false → is_word w e.spelt ≡ false → find w (knowns e ++ ks) ≡ find w ks
unfolding knowns is_word
skip-entry w e ks a b = skip-one w (record { named = e.entry.text; value = e.value }) _ a ∙ go e.spelt b
  where
    go : (x : Option Word) → is_word w x ≡ false
        → find w (elim x as (λ _. List Known) [ none ↦ [] | some v ↦ record { named = v.text; value = e.value } ∷ [] ] ++ ks) ≡ find w ks
    go none d = refl
    go (some v) d = skip-one w (record { named = v.text; value = e.value }) ks d

skip_all : (w : List ℕ) (es : List Entry) (ks : List Known) → among_entries w es ≡ false → find w (all_knowns es ++ ks) ≡ find w ks
unfolding among_entries all_knowns
skip_all w [] ks h = refl
skip_all w (e ∷ es) ks h =
    let x = neither (same w e.entry.text || is_word w e.spelt) (among_entries w es) h in
    let y = neither (same w e.entry.text) (is_word w e.spelt) x.0 in
    ap (find w) (append_assoc (knowns e) (all_knowns es) ks) ∙ skip-entry w e (all_knowns es ++ ks) y.0 y.1 ∙ skip_all w es ks x.1

no-input : (w : List ℕ) (ss : List Section) → in_sections w ss ≡ false → find w (inputs_of ss) ≡ none
unfolding in_sections in_section inputs_of find
no-input w [] h = refl
no-input w (inputs es ∷ ss) h = let x = neither (among_entries w es) (in_sections w ss) h in skip_all w es (inputs_of ss) x.0 ∙ no-input w ss x.1
no-input w (outputs es ∷ ss) h = no-input w ss (neither (among_entries w es) (in_sections w ss) h).1
no-input w (both es ∷ ss) h = let x = neither (among_entries w es) (in_sections w ss) h in skip_all w es (inputs_of ss) x.0 ∙ no-input w ss x.1
no-input w (errors es ∷ ss) h = no-input w ss (neither (among_entries w es) (in_sections w ss) h).1
no-input w (values t es ∷ ss) h = no-input w ss (neither (in_section w (values t es)) (in_sections w ss) h).1
no-input w (operations os ∷ ss) h = no-input w ss (neither (in_section w (operations os)) (in_sections w ss) h).1
no-input w (operators t os ∷ ss) h = no-input w ss (neither (in_section w (operators t os)) (in_sections w ss) h).1

none-some {ℓ} : {A : Type 0} {B : Type ℓ} {a : A} → none ≡ some a → B
none-some e = let z : ◌≡◌ {A = ℕ} 0 1 = cc in absurd (omega arith)

input-there : (p : Program) (w : List ℕ) (v : ℕ) → find w (inputs_of p.sections) ≡ some v → declared p w ≡ true
unfolding declared
input-there p w v e = or₁ (in_sections w p.sections) (among_rules w p.rules) (go (in_sections w p.sections) refl)
  where
    go : (t : Bool) → in_sections w p.sections ≡ t → t ≡ true
    go true d = refl
    go false d = none-some (sym (no-input w p.sections d) ∙ e)

-- Programs with the same sections

module _ (ss : List Section) (rs rs' : List Rule) where
  abbrev p : Program
  p = record { sections = ss; rules = rs }

  abbrev p' : Program
  p' = record { sections = ss; rules = rs' }

  record Wrong (q : Program) (e : Operator) (before : List made.Operator) : Type 0 where
    number : ℕ
    word : Word
    is : operator_of q e before ≡ wrong number word

  no-operator : (q : Program) (e : Operator) (before : List made.Operator) → find e.token.text (inputs_of q.sections) ≡ none → Wrong q e before
  unfolding operator_of lookup elsewhere
  no-operator q e before d = go (not (declared q e.token.text)) refl
    where
      test : Bool
      test = other_side e before || listed (find e.token.text (inputs_of q.sections)) before

      two : (t : Bool) → test ≡ t → not (declared q e.token.text) ≡ false → Wrong q e before
      two true b a = record { number = 45; word = e.token; is = rw (operator_of, a, b) }
      two false b a = record { number = if declared q e.token.text then 5 else 3; word = e.token; is = rw (operator_of, a, b, lookup, d) }

      go : (t : Bool) → not (declared q e.token.text) ≡ t → Wrong q e before
      go true a = record { number = 3; word = e.token; is = rw (operator_of, a) }
      go false a = two test refl a

  operator-alike : (e : Operator) (before : List made.Operator) → Like id (operator_of p e before) (operator_of p' e before)
  unfolding operator_of
  operator-alike e before = go (find e.token.text (inputs_of ss)) refl
    where
      test : Bool
      test = other_side e before || listed (find e.token.text (inputs_of ss)) before

      go : (x : Option ℕ) → find e.token.text (inputs_of ss) ≡ x → Like id (operator_of p e before) (operator_of p' e before)
      go none d =
          let a = no-operator p e before d in
          let b = no-operator p' e before d in
          rw (a.is, b.is) both-wrong
      go (some v) d =
          like-if id (not (declared p e.token.text)) (not (declared p' e.token.text)) 3 e.token _ _
          (ap not (input-there p' e.token.text v d ∙ sym (input-there p e.token.text v d))) (
          like-if id test test 45 e.token _ _ refl (
          like-next id id _ _ (lookup-alike p p' (inputs_of ss) e.token) (λ t _.
          like-next id id _ _ (lookup-alike p p' (outputs_of ss) e.emits) (λ o _.
          both-good (record { token = t; level = e.level; right = e.right; emits = o })))))

  operators-alike : (es : List Operator) (before : List made.Operator) → Like id (operators_of p es before) (operators_of p' es before)
  unfolding operators_of
  operators-alike [] before = both-good before
  operators-alike (e ∷ es) before = like-next id id _ _ (operator-alike e before) (λ o _. operators-alike es (before ++ (o ∷ [])))

  operations-alike : (os : List Operation) (n : Names) → Like id (declare_operations p os n) (declare_operations p' os n)
  unfolding declare_operations
  operations-alike [] n = both-good n
  operations-alike (o ∷ os) n =
      let w = o.operation in
      let t = given (find_operation w.text n.operations) || given (find w.text n.inputs) in
      like-if id t t 4 w _ _ refl (
      like-next id id _ _ (optional-alike p p' n.types o.takes) (λ t _.
      like-next id id _ _ (optional-alike p p' n.types o.gives) (λ g _.
      operations-alike os (with_operations n (n.operations ++ (record { named = w.text; instruction = o.instruction; takes = t; gives = g } ∷ []))))))

  same_alike : {A : Type 0} (m : Checked A) → Like {A = A} {B = A} id m m
  same_alike (good a) = both-good a
  same_alike (wrong n w) = both-wrong

  section-alike : (s : Section) (n : Names) → Like id (declare_section p s n) (declare_section p' s n)
  unfolding declare_section
  section-alike (inputs es) n = same_alike _
  section-alike (outputs es) n = same_alike _
  section-alike (both es) n = same_alike _
  section-alike (errors es) n = same_alike _
  section-alike (values w es) n = same_alike _
  section-alike (operations os) n = operations-alike os n
  section-alike (operators w es) n =
      like-if id (given (find_operators w.text n.operators)) (given (find_operators w.text n.operators)) 4 w _ _ refl (
      like-next id id _ _ (operators-alike es []) (λ os _. same_alike _))

  pub sections-alike : (xs : List Section) (n : Names) → Like id (declare_sections p xs n) (declare_sections p' xs n)
  unfolding declare_sections
  sections-alike [] n = both-good n
  sections-alike (s ∷ xs) n = like-next id id _ _ (section-alike s n) (λ m _. sections-alike xs m)
