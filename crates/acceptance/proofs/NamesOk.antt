-- What the declarations leave: every value of every class in range, every operation's instruction number of its kind.
use mathlib.Core.Bool.{Bool, true, false, ◌||◌, not}
use mathlib.Core.List.{List, [], ◌∷◌, ◌++◌}
use mathlib.Core.Option.{Option, none, some}
use mathlib.Core.Path.{◌≡◌, refl}
use Prim.Native.Nat.{ℕ, zero, suc, ◌+◌, ◌<◌, ◌≤◌}
use native.Mathlib.Omega.{arith}
use lib.Dec.{eqb}
use borrow.Author.Tests.{eqb-false}
use Rattle.acceptance.proofs.CheckLaws.{Yields, no-good, yields, next, passed}
use Rattle.acceptance.proofs.Shape.{Each, NotEmpty, InRange, OfKind, Ranked, SectionOk}
use Rattle.std.specs.Prelude.{if◌then◌else◌}
use Rattle.base.specs.Common.{same, given}
use Rattle.names.specs.Declare.{knowns, repeats, clashes, declare_all, declare_both, with_operations, declare_operations, all_knowns, inputs_of, outputs_of, other_side, listed, operator_of, operators_of, declare_section, declare_sections}
use Rattle.names.specs.Known.{Checked, good, wrong, Known, KnownType, KnownOperation, KnownOperators, Names, find, find_type, find_operation, find_operators, declared, elsewhere, lookup, is_type, lookup_type, optional_type}
use Rattle.program.specs.Made as made
use Rattle.program.specs.Made.{Level, at_level, level_and, levels_from, levels_of}
use Rattle.syntax.specs.Sections.{first_of}
use Rattle.syntax.specs.Written.{Entry, Operation, Operator, Section, inputs, outputs, both, errors, values, operations, operators, Program}
use Rattle.words.specs.Words.{Word}

abbrev pub KnownOk : Known → Type 0
KnownOk k = k.value < 65536

abbrev pub TypeOk : KnownType → Type 0
TypeOk t = Each KnownOk t.members

-- the members of a type that is there
unfoldable pub MembersOk : Option (List Known) → Type 0
MembersOk none = Unit {0}
MembersOk (some ks) = Each KnownOk ks

pub record OperationOk (o : KnownOperation) : Type 0 where
  pub low : first_of (given o.takes) (given o.gives) ≤ o.instruction
  pub high : o.instruction < first_of (given o.takes) (given o.gives) + 256
  pub takes : MembersOk o.takes
  pub gives : MembersOk o.gives

-- an operator as numbers: values and level in range
pub record OperatorOk (o : made.Operator) : Type 0 where
  pub token : o.token < 65536
  pub emits : o.emits < 65536
  pub low : 1 ≤ o.level
  pub high : o.level ≤ 15

abbrev pub LevelOk : Level → Type 0
LevelOk l = Each OperatorOk l.operators

-- a section has a level
pub record OperatorsOk (k : KnownOperators) : Type 0 where
  pub some_level : NotEmpty k.levels
  pub levels : Each LevelOk k.levels

pub record NamesOk (n : Names) : Type 0 where
  pub inputs : Each KnownOk n.inputs
  pub outputs : Each KnownOk n.outputs
  pub errors : Each KnownOk n.errors
  pub types : Each TypeOk n.types
  pub operations : Each OperationOk n.operations
  pub operators : Each OperatorsOk n.operators

pub each_append : {A : Type 0} (P : A → Type 0) (xs ys : List A) → Each P xs → Each P ys → Each P (xs ++ ys)
unfolding Each
each_append P [] ys h k = k
each_append P (x ∷ xs) ys h k = (h.0, each_append P xs ys h.1 k)

one_more : {A : Type 0} (P : A → Type 0) (xs : List A) (y : A) → Each P xs → P y → Each P (xs ++ (y ∷ []))
unfolding Each
one_more P xs y h k = each_append P xs (y ∷ []) h (k, tt)

-- Looking up

-- the first of a list that passes a test, or a later one
pub picked : {A : Type 0} (P : A → Type 0) (t : Bool) (a v : A) (later : Option A) → P a → (later ≡ some v → P v) → (if t then some a else later) ≡ some v → P v
picked P true a v later h k e = let x : a ≡ v = cc in rw x at h
picked P false a v later h k e = k e

pub none-some {ℓ} : {A : Type 0} {B : Type ℓ} {a : A} → none ≡ some a → B
none-some e = let z : ◌≡◌ {A = ℕ} 0 1 = cc in absurd (omega arith)

pub find-in : (w : List ℕ) (ks : List Known) (v : ℕ) → Each KnownOk ks → find w ks ≡ some v → v < 65536
unfolding Each find
find-in w [] v h e = none-some e
find-in w (k ∷ ks) v h e = picked (λ x. x < 65536) (same w k.named) k.value v (find w ks) h.0 (find-in w ks v h.1) e

pub lookup-in : (p : Program) (ks : List Known) (w : Word) → Each KnownOk ks → Yields (λ v. v < 65536) (lookup p ks w)
unfolding lookup elsewhere
lookup-in p ks w h v e = go (find w.text ks) refl e
  where
    go : (o : Option ℕ) → find w.text ks ≡ o → elim o as (λ _. Checked ℕ) [ some x ↦ good x | none ↦ elsewhere p w ] ≡ good v → v < 65536
    go none d e₁ = no-good e₁
    go (some x) d e₁ = let y : x ≡ v = cc in rw y at (find-in w.text ks x h d)

pub find-type-in : (w : List ℕ) (ts : List KnownType) (ks : List Known) → Each TypeOk ts → find_type w ts ≡ some ks → Each KnownOk ks
unfolding Each find_type
find-type-in w [] ks h e = none-some e
find-type-in w (t ∷ ts) ks h e = picked (Each KnownOk) (same w t.named) t.members ks (find_type w ts) h.0 (find-type-in w ts ks h.1) e

find-operation-in : (w : List ℕ) (os : List KnownOperation) (o : KnownOperation) → Each OperationOk os → find_operation w os ≡ some o → OperationOk o
unfolding Each find_operation
find-operation-in w [] o h e = none-some e
find-operation-in w (k ∷ ks) o h e = picked OperationOk (same w k.named) k o (find_operation w ks) h.0 (find-operation-in w ks o h.1) e

pub operation_inside : (w : List ℕ) (n : Names) (o : KnownOperation) → NamesOk n → find_operation w n.operations ≡ some o → OperationOk o
operation_inside w n o h e = find-operation-in w n.operations o h.operations e

-- the members found are in range, and there is a type exactly if one was written
pub record Typed (x : Option Word) (t : Option (List Known)) : Type 0 where
  pub same-given : given t ≡ given x
  pub members : MembersOk t

lookup-type-in : (p : Program) (ts : List KnownType) (w : Word) → Each TypeOk ts → Yields (Each KnownOk) (lookup_type p ts w)
unfolding lookup_type elsewhere
lookup-type-in p ts w h ks e = go (find_type w.text ts) refl e
  where
    no_type : (t : Bool) → (if t then wrong 3 w else elsewhere p w) ≡ good ks → Each KnownOk ks
    no_type true d = no-good d
    no_type false d = no-good d

    go : (o : Option (List Known)) → find_type w.text ts ≡ o
        → elim o as (λ _. Checked (List Known)) [ some x ↦ good x | none ↦ if is_type w.text p.sections then wrong 3 w else elsewhere p w ] ≡ good ks → Each KnownOk ks
    go none d e₁ = no_type (is_type w.text p.sections) e₁
    go (some x) d e₁ = let y : x ≡ ks = cc in rw y at (find-type-in w.text ts x h d)

pub typed : (p : Program) (ts : List KnownType) (x : Option Word) → Each TypeOk ts → Yields (Typed x) (optional_type p ts x)
unfolding optional_type MembersOk
typed p ts none h = yields (Typed none) none (record { same-given = refl; members = tt })
typed p ts (some w) h =
    next (Typed (some w)) (Each KnownOk) (lookup_type p ts w) _ (lookup-type-in p ts w h) (λ ks hk.
    yields (Typed (some w)) (some ks) (record { same-given = refl; members = hk }))

find-operators-in : (w : List ℕ) (ks : List KnownOperators) (ls : List Level) → Each OperatorsOk ks → find_operators w ks ≡ some ls → NotEmpty ls × Each LevelOk ls
unfolding Each find_operators
find-operators-in w [] ls h e = none-some e
find-operators-in w (k ∷ ks) ls h e =
    picked (λ x. NotEmpty x × Each LevelOk x) (same w k.named) k.levels ls (find_operators w ks) (h.0.some_level, h.0.levels) (find-operators-in w ks ls h.1) e

pub operators_in : (w : List ℕ) (n : Names) (ls : List Level) → NamesOk n → find_operators w n.operators ≡ some ls → NotEmpty ls × Each LevelOk ls
operators_in w n ls h e = find-operators-in w n.operators ls h.operators e

-- Declaring

knowns-ok : (e : Entry) → InRange e → Each KnownOk (knowns e)
unfolding knowns Each
knowns-ok e h = go e.spelt
  where
    go : (s : Option Word) → Each KnownOk (record { named = e.entry.text; value = e.value } ∷ elim s as (λ _. List Known) [ none ↦ [] | some w ↦ record { named = w.text; value = e.value } ∷ [] ])
    go none = (h, tt)
    go (some w) = (h, (h, tt))

all-ok : (es : List Entry) (have : List Known) (os : List KnownOperation) → Each InRange es → Each KnownOk have → Yields (Each KnownOk) (declare_all es have os)
unfolding declare_all Each
all-ok [] have os h k = yields (Each KnownOk) have k
all-ok (e ∷ es) have os h k =
    passed (Each KnownOk) (repeats e have || clashes e os) 4 e.entry _ (λ _.
    all-ok es (have ++ knowns e) os h.1 (each_append KnownOk have (knowns e) k (knowns-ok e h.0)))

abbrev BothOk : List Known × List Known → Type 0
BothOk x = Each KnownOk x.0 × Each KnownOk x.1

both_ok : (es : List Entry) (ins outs : List Known) (os : List KnownOperation) → Each InRange es → Each KnownOk ins → Each KnownOk outs → Yields BothOk (declare_both es ins outs os)
unfolding declare_both Each
both_ok [] ins outs os h k l = yields BothOk (ins, outs) (k, l)
both_ok (e ∷ es) ins outs os h k l =
    passed BothOk (repeats e ins || repeats e outs || clashes e os) 4 e.entry _ (λ _.
    both_ok es (ins ++ knowns e) (outs ++ knowns e) os h.1 (each_append KnownOk ins (knowns e) k (knowns-ok e h.0)) (each_append KnownOk outs (knowns e) l (knowns-ok e h.0)))

operations-ok : (p : Program) (os : List Operation) (n : Names) → Each OfKind os → NamesOk n → Yields NamesOk (declare_operations p os n)
unfolding declare_operations Each
operations-ok p [] n h k = yields NamesOk n k
operations-ok p (o ∷ os) n h k =
    passed NamesOk (given (find_operation o.operation.text n.operations) || given (find o.operation.text n.inputs)) 4 o.operation _ (λ _.
    next NamesOk (Typed o.takes) (optional_type p n.types o.takes) _ (typed p n.types o.takes k.types) (λ t ht.
    next NamesOk (Typed o.gives) (optional_type p n.types o.gives) _ (typed p n.types o.gives k.types) (λ g hg.
    let own : OperationOk (record { named = o.operation.text; instruction = o.instruction; takes = t; gives = g }) = record {
      low = rw (ht.same-given, hg.same-given) h.0.low;
      high = rw (ht.same-given, hg.same-given) h.0.high;
      takes = ht.members;
      gives = hg.members;
    } in
    operations-ok p os (with_operations n (n.operations ++ (record { named = o.operation.text; instruction = o.instruction; takes = t; gives = g } ∷ []))) h.1 (record {
      inputs = k.inputs;
      outputs = k.outputs;
      errors = k.errors;
      types = k.types;
      operations = one_more OperationOk n.operations _ k.operations own;
      operators = k.operators;
    }))))

-- Operators

all-knowns-ok : (es : List Entry) → Each InRange es → Each KnownOk (all_knowns es)
unfolding all_knowns Each
all-knowns-ok [] h = tt
all-knowns-ok (e ∷ es) h = each_append KnownOk (knowns e) (all_knowns es) (knowns-ok e h.0) (all-knowns-ok es h.1)

pub inputs_in : (ss : List Section) → Each SectionOk ss → Each KnownOk (inputs_of ss)
unfolding inputs_of SectionOk Each
inputs_in [] h = tt
inputs_in (inputs es ∷ ss) h = each_append KnownOk (all_knowns es) (inputs_of ss) (all-knowns-ok es h.0) (inputs_in ss h.1)
inputs_in (outputs es ∷ ss) h = inputs_in ss h.1
inputs_in (both es ∷ ss) h = each_append KnownOk (all_knowns es) (inputs_of ss) (all-knowns-ok es h.0) (inputs_in ss h.1)
inputs_in (errors es ∷ ss) h = inputs_in ss h.1
inputs_in (values w es ∷ ss) h = inputs_in ss h.1
inputs_in (operations os ∷ ss) h = inputs_in ss h.1
inputs_in (operators w os ∷ ss) h = inputs_in ss h.1

pub outputs_in : (ss : List Section) → Each SectionOk ss → Each KnownOk (outputs_of ss)
unfolding outputs_of SectionOk Each
outputs_in [] h = tt
outputs_in (inputs es ∷ ss) h = outputs_in ss h.1
outputs_in (outputs es ∷ ss) h = each_append KnownOk (all_knowns es) (outputs_of ss) (all-knowns-ok es h.0) (outputs_in ss h.1)
outputs_in (both es ∷ ss) h = each_append KnownOk (all_knowns es) (outputs_of ss) (all-knowns-ok es h.0) (outputs_in ss h.1)
outputs_in (errors es ∷ ss) h = outputs_in ss h.1
outputs_in (values w es ∷ ss) h = outputs_in ss h.1
outputs_in (operations os ∷ ss) h = outputs_in ss h.1
outputs_in (operators w os ∷ ss) h = outputs_in ss h.1

operator-ok : (p : Program) (e : Operator) (have : List made.Operator) → Each SectionOk p.sections → Ranked e → Yields OperatorOk (operator_of p e have)
unfolding operator_of
operator-ok p e have ss h =
    passed OperatorOk (not (declared p e.token.text)) 3 e.token _ (λ _.
    passed OperatorOk (other_side e have || listed (find e.token.text (inputs_of p.sections)) have) 45 e.token _ (λ _.
    next OperatorOk (λ v. v < 65536) (lookup p (inputs_of p.sections) e.token) _ (lookup-in p (inputs_of p.sections) e.token (inputs_in p.sections ss)) (λ t ht.
    next OperatorOk (λ v. v < 65536) (lookup p (outputs_of p.sections) e.emits) _ (lookup-in p (outputs_of p.sections) e.emits (outputs_in p.sections ss)) (λ o ho.
    yields OperatorOk (record { token = t; level = e.level; right = e.right; emits = o }) (record { token = ht; emits = ho; low = h.0; high = h.1 })))))

more-operators-ok : (p : Program) (es : List Operator) (have : List made.Operator) → Each SectionOk p.sections → Each Ranked es → Each OperatorOk have → Yields (Each OperatorOk) (operators_of p es have)
unfolding operators_of Each
more-operators-ok p [] have ss h k = yields (Each OperatorOk) have k
more-operators-ok p (e ∷ es) have ss h k =
    next (Each OperatorOk) OperatorOk (operator_of p e have) _ (operator-ok p e have ss h.0) (λ o ho.
    more-operators-ok p es (have ++ (o ∷ [])) ss h.1 (one_more OperatorOk have o k ho))

not-empty-more : {A : Type 0} (xs : List A) (y : A) → NotEmpty (xs ++ (y ∷ []))
unfolding NotEmpty
not-empty-more [] y = tt
not-empty-more (x ∷ xs) y = tt

operators-some : (p : Program) (es : List Operator) (have : List made.Operator) → NotEmpty have → Yields NotEmpty (operators_of p es have)
unfolding operators_of
operators-some p [] have k = yields NotEmpty have k
operators-some p (e ∷ es) have k =
    next NotEmpty (λ _. Unit {0}) (operator_of p e have) _ (λ _ _. tt) (λ o _. operators-some p es (have ++ (o ∷ [])) (not-empty-more have o))

operators-first : (p : Program) (es : List Operator) → NotEmpty es → Yields NotEmpty (operators_of p es [])
unfolding operators_of NotEmpty
operators-first p [] h = absurd h
operators-first p (e ∷ es) h =
    next NotEmpty (λ _. Unit {0}) (operator_of p e []) _ (λ _ _. tt) (λ o _. operators-some p es (o ∷ []) tt)

at-level-ok : (l : ℕ) (os : List made.Operator) → Each OperatorOk os → Each OperatorOk (at_level l os)
unfolding at_level Each
at-level-ok l [] h = tt
at-level-ok l (o ∷ os) h = go (eqb o.level l) (at-level-ok l os h.1)
  where
    go : (t : Bool) → Each OperatorOk (at_level l os) → Each OperatorOk (if t then o ∷ at_level l os else at_level l os)
    go true k = (h.0, k)
    go false k = k

-- what the operators of every level have, each level used has
module _ (P : List made.Operator → Type 0) where
  level-and : (os : List made.Operator) (ls : List Level) → P os → Each (λ l. P l.operators) ls → Each (λ l. P l.operators) (level_and os ls)
  unfolding level_and Each
  level-and [] ls h k = k
  level-and (o ∷ os) ls h k = (h, k)

  levels-from : (n l : ℕ) (os : List made.Operator) → ((m : ℕ) → P (at_level m os)) → Each (λ l. P l.operators) (levels_from n l os)
  unfolding levels_from Each
  levels-from zero l os h = tt
  levels-from (suc n) l os h = level-and (at_level l os) (levels_from n (suc l) os) (h l) (levels-from n (suc l) os h)

  pub levels-have : (os : List made.Operator) → ((m : ℕ) → P (at_level m os)) → Each (λ l. P l.operators) (levels_of os)
  unfolding levels_of
  levels-have os h = levels-from 15 1 os h

and-some : (os : List made.Operator) (ls : List Level) → NotEmpty ls → NotEmpty (level_and os ls)
unfolding level_and NotEmpty
and-some [] ls h = h
and-some (o ∷ os) ls h = tt

above : (a b : ℕ) → b ≤ a → (a ≡ b → ⊥) → suc b ≤ a
above a b x y = omega (arith, y)

-- the level of an operator is used
levels-some : (n l : ℕ) (o : made.Operator) (os : List made.Operator) → l ≤ o.level → o.level < l + n → NotEmpty (levels_from n l (o ∷ os))
unfolding levels_from level_and at_level NotEmpty
levels-some zero l o os h k = absurd (omega arith)
levels-some (suc n) l o os h k = go (eqb o.level l) refl (λ m. levels-some n (suc l) o os m (omega arith))
  where
    go : (t : Bool) → eqb o.level l ≡ t → (suc l ≤ o.level → NotEmpty (levels_from n (suc l) (o ∷ os)))
        → NotEmpty (level_and (if t then o ∷ at_level l os else at_level l os) (levels_from n (suc l) (o ∷ os)))
    go true e f = tt
    go false e f = and-some (at_level l os) (levels_from n (suc l) (o ∷ os)) (f (above o.level l h (eqb-false o.level l e)))

levels-of-some : (os : List made.Operator) → NotEmpty os → Each OperatorOk os → NotEmpty (levels_of os)
unfolding levels_of Each NotEmpty
levels-of-some [] h k = absurd h
levels-of-some (o ∷ os) h k = levels-some 15 1 o os k.0.low (let x = k.0.high in omega arith)

operators-ok : (p : Program) (w : Word) (es : List Operator) (n : Names) → Each SectionOk p.sections → NotEmpty es × Each Ranked es → NamesOk n → Yields NamesOk (declare_section p (operators w es) n)
unfolding declare_section Each
operators-ok p w es n ss h k =
    passed NamesOk (given (find_operators w.text n.operators)) 4 w _ (λ _.
    next NamesOk (λ os. NotEmpty os × Each OperatorOk os) (operators_of p es []) _ (λ os e. (operators-first p es h.0 os e, more-operators-ok p es [] ss h.1 tt os e)) (λ os ho.
    yields NamesOk _ (record {
      inputs = k.inputs;
      outputs = k.outputs;
      errors = k.errors;
      types = k.types;
      operations = k.operations;
      operators = one_more OperatorsOk n.operators _ k.operators (record { some_level = levels-of-some os ho.0 ho.1; levels = levels-have (Each OperatorOk) os (λ m. at-level-ok m os ho.1) });
    })))

section-ok : (p : Program) (s : Section) (n : Names) → Each SectionOk p.sections → SectionOk s → NamesOk n → Yields NamesOk (declare_section p s n)
unfolding declare_section SectionOk Each
section-ok p (inputs es) n ss h k =
    next NamesOk (Each KnownOk) (declare_all es n.inputs n.operations) _ (all-ok es n.inputs n.operations h k.inputs) (λ ks hk.
    yields NamesOk _ (record { inputs = hk; outputs = k.outputs; errors = k.errors; types = k.types; operations = k.operations; operators = k.operators }))
section-ok p (outputs es) n ss h k =
    next NamesOk (Each KnownOk) (declare_all es n.outputs []) _ (all-ok es n.outputs [] h k.outputs) (λ ks hk.
    yields NamesOk _ (record { inputs = k.inputs; outputs = hk; errors = k.errors; types = k.types; operations = k.operations; operators = k.operators }))
section-ok p (both es) n ss h k =
    next NamesOk BothOk (declare_both es n.inputs n.outputs n.operations) _ (both_ok es n.inputs n.outputs n.operations h k.inputs k.outputs) (λ ks hk.
    yields NamesOk _ (record { inputs = hk.0; outputs = hk.1; errors = k.errors; types = k.types; operations = k.operations; operators = k.operators }))
section-ok p (errors es) n ss h k =
    next NamesOk (Each KnownOk) (declare_all es n.errors []) _ (all-ok es n.errors [] h k.errors) (λ ks hk.
    yields NamesOk _ (record { inputs = k.inputs; outputs = k.outputs; errors = hk; types = k.types; operations = k.operations; operators = k.operators }))
section-ok p (values w es) n ss h k =
    passed NamesOk (given (find_type w.text n.types)) 4 w _ (λ _.
    next NamesOk (Each KnownOk) (declare_all es [] []) _ (all-ok es [] [] h tt) (λ ks hk.
    yields NamesOk _ (record { inputs = k.inputs; outputs = k.outputs; errors = k.errors; types = one_more TypeOk n.types _ k.types hk; operations = k.operations; operators = k.operators })))
section-ok p (operations os) n ss h k = operations-ok p os n h k
section-ok p (operators w es) n ss h k = operators-ok p w es n ss h k

pub sections-ok : (p : Program) (ss : List Section) (n : Names) → Each SectionOk p.sections → Each SectionOk ss → NamesOk n → Yields NamesOk (declare_sections p ss n)
unfolding declare_sections Each
sections-ok p [] n all h k = yields NamesOk n k
sections-ok p (s ∷ ss) n all h k = next NamesOk NamesOk (declare_section p s n) _ (section-ok p s n all h.0 k) (λ m hm. sections-ok p ss m all h.1 hm)
