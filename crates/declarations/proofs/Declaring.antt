-- The sections declared one after the other, by crate names and by the row: the same fault at the same word, or names that agree.
use mathlib.Core.Bool.{Bool, true, false, ◌||◌, not, or-false}
use mathlib.Core.List.{List, [], ◌∷◌, ◌++◌, append-nil, append_assoc}
use mathlib.Core.Option.{Option, none, some}
use mathlib.Core.Path.{◌≡◌, refl, sym, ap, ◌∙◌}
use Prim.Native.Nat.{ℕ, suc, ◌+◌, ◌<◌, ◌≤◌}
use lib.Dec.{eqb}
use lib.ListN.{length, length-append}
use lib.Seq.{append_snoc}
use borrow.Author.Tests.{eq-eqb, ne_eqb}
use native.Mathlib.Nat.{zero-add}
use native.Mathlib.Omega.{arith}
use Rattle.std.specs.Prelude.{if◌then◌else◌}
use Rattle.base.specs.Common.{same, given}
use Rattle.declarations.proofs.Lookups.{found, found-names, found-row, looked-up}
use Rattle.declarations.proofs.Rows.{first, first-none, mapped-first, given-mapped, knowns-append, index-append, find-type-append, find-operation-append, find-operators-append, decl-here, faults-append}
use Rattle.declarations.proofs.Whole.{high, Apart, values-apart, Valued, none-nil, none-cons, entries_none, rules_none, section-none, later-none, class-0, index-nil, index-cons, index-entries, index-rules, index-type, index-operators, whole-inputs, whole-outputs, pick-mapped, is-type, is_declared, is_rule}
use Rattle.declarations.specs.Agreement.{Declares, declared_wrong, declared_good}
use Rattle.declarations.specs.Decls.{Decl, of_entry, of_type, of_operation, of_operators, of_rule, entry_decls, operation_decls, section_decls, sections_decls, rule_decls, decls_of, entries_or, entries_from, entries_of, feeds, knowns_of, knowns_in, index_of, declared_in, decl_of, type_class, class_named, members_of, operation_from, value_in, operator_from, operators_from, mapped, Agrees, repeats_in, clashes_in, entry_again, elsewhere_in, lookup_in, type_in, optional_in, operation_fault, operator_in, operators_in, operators_fault, decl_fault, decl_faults}
use Rattle.names.specs.Declare.{knowns, repeats, clashes, declare_all, declare_both, with_operations, declare_operations, inputs_of, outputs_of, other_side, listed, operator_of, operators_of, declare_section, declare_sections, known_rules}
use Rattle.names.specs.Known.{Checked, good, wrong, ◌>>=◌, fault_if, Known, KnownOperation, Names, find, find_type, find_operation, find_operators, declared, is_type, lookup_type, optional_type}
use Rattle.names.specs.Understand.{nobody}
use Rattle.program.specs.Made as made
use Rattle.program.specs.Made.{levels_of}
use Rattle.syntax.specs.Written.{Entry, Operation, Section, inputs, outputs, both, errors, values, operations, operators, Operator, Rule, Program}
use Rattle.words.specs.Words.{Word}

-- Two checks with the same fault, or none and a result that has P

data Same {A B : Type 0} (P : A → Type 0) : Checked B → Checked A → Type 0 where
  same-wrong : {n : ℕ} {w : Word} → Same P (wrong n w) (wrong n w)
  same_good : {b : B} {a : A} → P a → Same P (good b) (good a)

onward : {A B C D : Type 0} (P : A → Type 0) (Q : C → Type 0) {x : Checked B} {y : Checked A} (f : B → Checked D) (g : A → Checked C)
    → Same P x y → ((b : B) (a : A) → P a → Same Q (f b) (g a)) → Same Q (◌>>=◌ x f) (◌>>=◌ y g)
onward P Q f g same-wrong k = same-wrong
onward P Q f g (same_good h) k = k _ _ h

weaken : {A B : Type 0} (P Q : A → Type 0) {x : Checked B} {y : Checked A} → ((a : A) → P a → Q a) → Same P x y → Same Q x y
weaken P Q k same-wrong = same-wrong
weaken P Q k (same_good h) = same_good (k _ h)

-- past one test of both
tested : {C D : Type 0} (Q : C → Type 0) (t : Bool) (n : ℕ) (w : Word) (x : Checked D) (y : Checked C) → Same Q x y
    → Same Q (◌>>=◌ (fault_if t n w) (λ _. x)) (◌>>=◌ (fault_if t n w) (λ _. y))
tested Q true n w x y h = same-wrong
tested Q false n w x y h = h

-- One more entry of a class

entry-feeds : (c : ℕ) (e : Entry) → feeds c (of_entry c e) ≡ true
unfolding feeds
entry-feeds c e = rw (eq-eqb c c refl)

entry-knowns : (c k : ℕ) (before : List Decl) (e : Entry) → feeds c (of_entry k e) ≡ true → knowns_in c (before ++ (of_entry k e ∷ [])) ≡ knowns_in c before ++ knowns e
unfolding knowns_in knowns_of knowns
entry-knowns c k before e h = rw (knowns-append, h, append-nil)

-- the operations that an entry of a class may not be named after are those before it
abbrev Known-operations : List KnownOperation → List Decl → Type 0
Known-operations os before = (w : List ℕ) → given (find_operation w os) ≡ given (index_of 6 w 0 before)

quiet-index : (c : ℕ) (w : List ℕ) (before x : List Decl) → index_of c w (0 + length before) x ≡ none → index_of c w 0 (before ++ x) ≡ index_of c w 0 before
quiet-index c w before x h = rw (index-append, h) (first-none (index_of c w 0 before))

quiet-knowns : (c : ℕ) (before x : List Decl) → knowns_in c x ≡ [] → knowns_in c (before ++ x) ≡ knowns_in c before
quiet-knowns c before x h = rw (knowns-append, h, append-nil)

entry-operations : (os : List KnownOperation) (k : ℕ) (before : List Decl) (e : Entry) → eqb k 6 ≡ false → Known-operations os before → Known-operations os (before ++ (of_entry k e ∷ []))
entry-operations os k before e a h w =
    rw (quiet-index 6 w before (of_entry k e ∷ []) (index-cons 6 w (0 + length before) (of_entry k e) [] a ∙ index-nil 6 w (suc (0 + length before)))) (h w)

module _ (ds : List Decl) (en : ℕ → List Operator) (c : ℕ) (os : List KnownOperation) (K : List Decl → Type 0) (step : (b : List Decl) (e : Entry) → K b → K (b ++ (of_entry c e ∷ [])))
    (entry-fault : (b : List Decl) (e : Entry) → K b → decl_fault ds b (en (length b)) (of_entry c e) ≡ fault_if (repeats e (knowns_in c b) || clashes e os) 4 e.entry) where
  all_same : (es : List Entry) (before : List Decl) (have : List Known) → K before → have ≡ knowns_in c before
      → Same (λ ks. ks ≡ knowns_in c (before ++ entry_decls c es)) (decl_faults ds en before (entry_decls c es)) (declare_all es have os)
  unfolding entry_decls decl_faults declare_all
  all_same [] before have k h = same_good (h ∙ ap (knowns_in c) (sym (append-nil before)))
  all_same (e ∷ es) before have k h =
      rw (entry-fault before e k, h)
      (tested _ (repeats e (knowns_in c before) || clashes e os) 4 e.entry _ _
      (weaken (λ ks. ks ≡ knowns_in c (before ++ (of_entry c e ∷ []) ++ entry_decls c es)) (λ ks. ks ≡ knowns_in c (before ++ (of_entry c e ∷ entry_decls c es)))
      (λ ks q. q ∙ ap (knowns_in c) (append_snoc before (of_entry c e) (entry_decls c es)))
      (all_same es (before ++ (of_entry c e ∷ [])) (knowns_in c before ++ knowns e) (step before e k) (sym (entry-knowns c c before e (entry-feeds c e))))))

-- inputs are held against the operations, outputs, errors and values are not

input-fault : (ds : List Decl) (rk : List Operator) (os : List KnownOperation) (b : List Decl) (e : Entry) → Known-operations os b
    → decl_fault ds b rk (of_entry 1 e) ≡ fault_if (repeats e (knowns_in 1 b) || clashes e os) 4 e.entry
unfolding decl_fault entry_again repeats_in clashes_in repeats clashes
input-fault ds rk os b e k = rw (k e.entry.text)

plain-fault : (ds : List Decl) (rk : List Operator) (c : ℕ) (b : List Decl) (e : Entry) → eqb c 5 ≡ false → eqb c 6 ≡ false → eqb c 7 ≡ false → eqb c 600 ≡ false → eqb c 1 ≡ false → eqb c 3 ≡ false
    → decl_fault ds b rk (of_entry c e) ≡ fault_if (repeats e (knowns_in c b) || clashes e []) 4 e.entry
unfolding decl_fault entry_again repeats_in repeats clashes find_operation
plain-fault ds rk c b e h₅ h₆ h₇ h₆₀₀ h₁ h₃ = rw (h₅, h₆, h₇, h₆₀₀, h₁, h₃, or-false)

both-fault : (ds : List Decl) (rk : List Operator) (os : List KnownOperation) (b : List Decl) (e : Entry) → Known-operations os b
    → decl_fault ds b rk (of_entry 3 e) ≡ fault_if (repeats e (knowns_in 1 b) || repeats e (knowns_in 2 b) || clashes e os) 4 e.entry
unfolding decl_fault entry_again repeats_in clashes_in repeats clashes
both-fault ds rk os b e k = rw (k e.entry.text)

both-same : (ds : List Decl) (en : ℕ → List Operator) (os : List KnownOperation) (es : List Entry) (before : List Decl) (ins outs : List Known)
    → Known-operations os before → ins ≡ knowns_in 1 before → outs ≡ knowns_in 2 before
    → Same (λ x. (x.0 ≡ knowns_in 1 (before ++ entry_decls 3 es)) × (x.1 ≡ knowns_in 2 (before ++ entry_decls 3 es))) (decl_faults ds en before (entry_decls 3 es)) (declare_both es ins outs os)
unfolding entry_decls decl_faults declare_both feeds
both-same ds en os [] before ins outs k h h₂ = same_good (h ∙ ap (knowns_in 1) (sym (append-nil before)), h₂ ∙ ap (knowns_in 2) (sym (append-nil before)))
both-same ds en os (e ∷ es) before ins outs k h h₂ =
    rw (both-fault ds (en (length before)) os before e k, h, h₂)
    (tested _ (repeats e (knowns_in 1 before) || repeats e (knowns_in 2 before) || clashes e os) 4 e.entry _ _
    (weaken
    (λ x. (x.0 ≡ knowns_in 1 (before ++ (of_entry 3 e ∷ []) ++ entry_decls 3 es)) × (x.1 ≡ knowns_in 2 (before ++ (of_entry 3 e ∷ []) ++ entry_decls 3 es)))
    (λ x. (x.0 ≡ knowns_in 1 (before ++ (of_entry 3 e ∷ entry_decls 3 es))) × (x.1 ≡ knowns_in 2 (before ++ (of_entry 3 e ∷ entry_decls 3 es))))
    (λ x q. let a = append_snoc before (of_entry 3 e) (entry_decls 3 es) in (q.0 ∙ ap (knowns_in 1) a, q.1 ∙ ap (knowns_in 2) a))
    (both-same ds en os es (before ++ (of_entry 3 e ∷ [])) (knowns_in 1 before ++ knowns e) (knowns_in 2 before ++ knowns e) (entry-operations os 3 before e refl k)
    (sym (entry-knowns 1 3 before e refl)) (sym (entry-knowns 2 3 before e refl)))))

-- Names so far, and the row `before` that they were declared by; members are those of the whole row

record Sofar (ds : List Decl) (en : ℕ → List Operator) (n : Names) (before : List Decl) : Type 0 where
  inputs : n.inputs ≡ knowns_in 1 before
  outputs : n.outputs ≡ knowns_in 2 before
  errors : n.errors ≡ knowns_in 4 before
  types : (w : List ℕ) → find_type w n.types ≡ mapped (λ i. knowns_in (8 + i) ds) (index_of 5 w 0 before)
  operations : (w : List ℕ) → find_operation w n.operations ≡ mapped (λ i. operation_from ds (decl_of ds i)) (index_of 6 w 0 before)
  operators : (w : List ℕ) → find_operators w n.operators ≡ mapped (λ i. levels_of (operators_from ds (en i))) (index_of 600 w 0 before)
  ranked : (w : List ℕ) (i : ℕ) → index_of 600 w 0 before ≡ some i → operators_in ds (en i) [] ≡ good (operators_from ds (en i))

known-operations : (ds : List Decl) (en : ℕ → List Operator) (n : Names) (before : List Decl) → Sofar ds en n before → Known-operations n.operations before
known-operations ds en n before s w = rw (s.operations w) (given-mapped (λ i. operation_from ds (decl_of ds i)) (index_of 6 w 0 before))

-- no value is of a type that is not yet declared; 600 is no class of values
abbrev Above : List Decl → Type 0
Above before = (c : ℕ) → 8 + length before ≤ c → (600 ≡ c → ⊥) → knowns_in c before ≡ []

valued : (c : ℕ) → 8 ≤ c → (600 ≡ c → ⊥) → Valued c
valued c h o = record { low = λ k l b e. omega arith; high = o }

above-section : (before : List Decl) (s : Section) → Above before → Above (before ++ section_decls (length before) s)
above-section before s a c h o =
    let l = length-append before (section_decls (length before) s) in
    rw (knowns-append, a c (omega arith) o) (section-none c (length before) s (valued c (omega arith) o) (λ e. omega arith))

above_at : (s : Section) (i : ℕ) (before : List Decl) → i ≡ length before → Above before → Above (before ++ section_decls i s)
above_at s i before l a = rw l (above-section before s a)

-- Operations

module _ (p : Program) (ds : List Decl) (en : ℕ → List Operator) (whole-declared : (w : List ℕ) → declared p w ≡ declared_in w ds)
    (whole-type : (w : List ℕ) → is_type w p.sections ≡ given (index_of 5 w 0 ds)) where
  -- a type that is found stays the first of its name
  type-same : (n : Names) (before rest : List Decl) → ds ≡ before ++ rest → Sofar ds en n before → (w : Word)
      → Same (λ ks. ks ≡ knowns_in (class_named ds w.text) ds) (type_in ds before w) (lookup_type p n.types w)
  unfolding class_named found
  type-same n before rest q s w =
      rw (found-names, found-row, s.types w.text, whole-type w.text, whole-declared w.text) (go (index_of 5 w.text 0 before) refl)
    where
      wrongs : (t u : Bool) → Same (λ ks. ks ≡ knowns_in (type_class (index_of 5 w.text 0 ds)) ds) (found {A = ℕ} w none t u) (found w none t u)
      wrongs true u = same-wrong
      wrongs false u = same-wrong

      go : (o : Option ℕ) → index_of 5 w.text 0 before ≡ o → Same (λ ks. ks ≡ knowns_in (type_class (index_of 5 w.text 0 ds)) ds)
          (found w (mapped (λ i. 8 + i) o) (given (index_of 5 w.text 0 ds)) (declared_in w.text ds))
          (found w (mapped (λ i. knowns_in (8 + i) ds) o) (given (index_of 5 w.text 0 ds)) (declared_in w.text ds))
      go none e = wrongs (given (index_of 5 w.text 0 ds)) (declared_in w.text ds)
      go (some i) e =
          let f : index_of 5 w.text 0 ds ≡ some i = ap (index_of 5 w.text 0) q ∙ index-append 5 w.text 0 before rest ∙ rw e in
          same_good (ap (λ (x : Option ℕ). knowns_in (type_class x) ds) (sym f))

  optional-same : (n : Names) (before rest : List Decl) → ds ≡ before ++ rest → Sofar ds en n before → (x : Option Word)
      → Same (λ t. t ≡ members_of ds x) (optional_in ds before x) (optional_type p n.types x)
  unfolding optional_in optional_type members_of
  optional-same n before rest q s none = same_good refl
  optional-same n before rest q s (some w) = go (type-same n before rest q s w)
    where
      go : {x : Checked ℕ} {y : Checked (List Known)} → Same (λ ks. ks ≡ knowns_in (class_named ds w.text) ds) x y
          → Same (λ t. t ≡ some (knowns_in (class_named ds w.text) ds)) x (◌>>=◌ y (λ ks. good (some ks)))
      go same-wrong = same-wrong
      go (same_good h) = same_good (ap some h)

one-operation : (ds : List Decl) (en : ℕ → List Operator) (n : Names) (before rest : List Decl) (o : Operation) → ds ≡ before ++ (of_operation o ∷ rest) → Sofar ds en n before
    → Sofar ds en (with_operations n (n.operations ++ (operation_from ds (of_operation o) ∷ []))) (before ++ (of_operation o ∷ []))
unfolding index_of find_operation
one-operation ds en n before rest o q s = record {
  inputs = s.inputs ∙ sym (quiet-knowns 1 before (of_operation o ∷ []) (none-cons 1 (of_operation o) [] refl (none-nil 1)));
  outputs = s.outputs ∙ sym (quiet-knowns 2 before (of_operation o ∷ []) (none-cons 2 (of_operation o) [] refl (none-nil 2)));
  errors = s.errors ∙ sym (quiet-knowns 4 before (of_operation o ∷ []) (none-cons 4 (of_operation o) [] refl (none-nil 4)));
  types = λ w. rw (quiet-index 5 w before (of_operation o ∷ []) refl) (s.types w);
  operations = λ w.
      rw (find-operation-append, index-append, mapped-first, s.operations w)
      (ap (first (mapped (λ i. operation_from ds (decl_of ds i)) (index_of 6 w 0 before)))
      (pick-mapped (same w o.operation.text) (λ i. operation_from ds (decl_of ds i)) (0 + length before) (operation_from ds (of_operation o)) none none (found w) refl));
  operators = λ w. rw (quiet-index 600 w before (of_operation o ∷ []) refl) (s.operators w);
  ranked = λ w i h. s.ranked w i (rw (quiet-index 600 w before (of_operation o ∷ []) refl) at h);
}
  where
    found : (w : List ℕ) → operation_from ds (of_operation o) ≡ operation_from ds (decl_of ds (0 + length before))
    found w = ap (operation_from ds) (sym (ap (decl_of ds) (zero-add (length before)) ∙ ap (λ (l : List Decl). decl_of l (length before)) q ∙ decl-here before (of_operation o) rest))

operation-test : (ds : List Decl) (en : ℕ → List Operator) (n : Names) (before : List Decl) → Sofar ds en n before → (w : List ℕ)
    → (given (find_operation w n.operations) || given (find w n.inputs)) ≡ (given (index_of 6 w 0 before) || given (find w (knowns_in 1 before)))
operation-test ds en n before s w = rw (known-operations ds en n before s w, s.inputs)

abbrev done : Checked (Unit {0})
done = good tt

-- an operation's three tests, in both forms
three : {A B C D E F : Type 0} (P : A → Type 0) (P₂ : C → Type 0) (Q : E → Type 0) (t : Bool) (w : Word) {x : Checked B} {y : Checked A} {x₂ : Checked D} {y₂ : Checked C}
    (z : Checked F) (k : A → C → Checked E) → Same P x y → Same P₂ x₂ y₂ → ((a : A) (c : C) → P a → P₂ c → Same Q z (k a c))
    → Same Q (◌>>=◌ (◌>>=◌ (fault_if t 4 w) (λ _. ◌>>=◌ x (λ _. ◌>>=◌ x₂ (λ _. done)))) (λ _. z))
    (◌>>=◌ (fault_if t 4 w) (λ _. ◌>>=◌ y (λ a. ◌>>=◌ y₂ (λ c. k a c))))
three P P₂ Q true w z k s s₂ h = same-wrong
three P P₂ Q false w z k same-wrong s₂ h = same-wrong
three P P₂ Q false w z k (same_good a) same-wrong h = same-wrong
three P P₂ Q false w z k (same_good a) (same_good c) h = h _ _ a c

module _ (p : Program) (ds : List Decl) (en : ℕ → List Operator) (whole-declared : (w : List ℕ) → declared p w ≡ declared_in w ds)
    (whole-type : (w : List ℕ) → is_type w p.sections ≡ given (index_of 5 w 0 ds)) where
  operations-same : (os : List Operation) (n : Names) (before rest : List Decl) → ds ≡ before ++ (operation_decls os ++ rest) → Sofar ds en n before
      → Same (λ m. Sofar ds en m (before ++ operation_decls os)) (decl_faults ds en before (operation_decls os)) (declare_operations p os n)
  unfolding operation_decls decl_faults declare_operations decl_fault operation_fault
  operations-same [] n before rest q s = same_good {a = n} (rw append-nil s)
  operations-same (o ∷ os) n before rest q s =
      rw (operation-test ds en n before s o.operation.text)
      (three (λ t. t ≡ members_of ds o.takes) (λ t. t ≡ members_of ds o.gives) _
      (given (index_of 6 o.operation.text 0 before) || given (find o.operation.text (knowns_in 1 before))) o.operation _ _
      (optional-same p ds en whole-declared whole-type n before (of_operation o ∷ (operation_decls os ++ rest)) q s o.takes)
      (optional-same p ds en whole-declared whole-type n before (of_operation o ∷ (operation_decls os ++ rest)) q s o.gives)
      (λ t g ht hg. rw (ht, hg)
      (weaken (λ m. Sofar ds en m (before ++ (of_operation o ∷ []) ++ operation_decls os)) (λ m. Sofar ds en m (before ++ (of_operation o ∷ operation_decls os)))
      (λ m h. rw append_snoc at h)
      (operations-same os (with_operations n (n.operations ++ (operation_from ds (of_operation o) ∷ []))) (before ++ (of_operation o ∷ [])) rest
      (q ∙ sym (append_snoc before (of_operation o) (operation_decls os ++ rest))) (one-operation ds en n before (operation_decls os ++ rest) o q s)))))

-- Sections

finished : {A B C : Type 0} (P : A → Type 0) (Q : C → Type 0) (g : A → C) {x : Checked B} {y : Checked A} → Same P x y → ((a : A) → P a → Q (g a)) → Same Q x (◌>>=◌ y (λ a. good (g a)))
finished P Q g same-wrong k = same-wrong
finished P Q g (same_good h) k = same_good (k _ h)

-- what a part of the row that feeds none of a class leaves alone
module _ (ds : List Decl) (en : ℕ → List Operator) (n : Names) (before x : List Decl) (s : Sofar ds en n before) where
  still-inputs : knowns_in 1 x ≡ [] → n.inputs ≡ knowns_in 1 (before ++ x)
  still-inputs h = s.inputs ∙ sym (quiet-knowns 1 before x h)

  still-outputs : knowns_in 2 x ≡ [] → n.outputs ≡ knowns_in 2 (before ++ x)
  still-outputs h = s.outputs ∙ sym (quiet-knowns 2 before x h)

  still-errors : knowns_in 4 x ≡ [] → n.errors ≡ knowns_in 4 (before ++ x)
  still-errors h = s.errors ∙ sym (quiet-knowns 4 before x h)

  still-types : ((w : List ℕ) → index_of 5 w (0 + length before) x ≡ none) → (w : List ℕ)
      → find_type w n.types ≡ mapped (λ i. knowns_in (8 + i) ds) (index_of 5 w 0 (before ++ x))
  still-types h w = rw (quiet-index 5 w before x (h w)) (s.types w)

  still-operations : ((w : List ℕ) → index_of 6 w (0 + length before) x ≡ none) → (w : List ℕ)
      → find_operation w n.operations ≡ mapped (λ i. operation_from ds (decl_of ds i)) (index_of 6 w 0 (before ++ x))
  still-operations h w = rw (quiet-index 6 w before x (h w)) (s.operations w)

  still-operators : ((w : List ℕ) → index_of 600 w (0 + length before) x ≡ none) → (w : List ℕ)
      → find_operators w n.operators ≡ mapped (λ i. levels_of (operators_from ds (en i))) (index_of 600 w 0 (before ++ x))
  still-operators h w = rw (quiet-index 600 w before x (h w)) (s.operators w)

  still-ranked : ((w : List ℕ) → index_of 600 w (0 + length before) x ≡ none) → (w : List ℕ) (i : ℕ)
      → index_of 600 w 0 (before ++ x) ≡ some i → operators_in ds (en i) [] ≡ good (operators_from ds (en i))
  still-ranked h w i q = s.ranked w i (rw (quiet-index 600 w before x (h w)) at q)

-- the members of a type are all there once its section is done
own-members : (ds before rest : List Decl) (w : Word) (es : List Entry) → ds ≡ before ++ (of_type w ∷ entry_decls (8 + length before) es ++ rest)
    → knowns_in (8 + length before) rest ≡ [] → knowns_in (8 + length before) ds ≡ knowns_in (8 + length before) (before ++ (of_type w ∷ []) ++ entry_decls (8 + length before) es)
own-members ds before rest w es q h =
    ap (knowns_in (8 + length before)) (q ∙ sym (append_assoc before (of_type w ∷ entry_decls (8 + length before) es) rest))
    ∙ quiet-knowns (8 + length before) (before ++ (of_type w ∷ entry_decls (8 + length before) es)) rest h
    ∙ ap (knowns_in (8 + length before)) (sym (append_snoc before (of_type w) (entry_decls (8 + length before) es)))

type-apart : (j : ℕ) → Apart (8 + j) 5
type-apart j = rw (ne_eqb 5 (8 + j) (λ e. omega arith))

-- the names with one type more
abbrev with_type : Names → Word → List Known → Names
with_type n w ks = record { inputs = n.inputs; outputs = n.outputs; errors = n.errors; types = n.types ++ (record { named = w.text; members = ks } ∷ []); operations = n.operations; operators = n.operators }

one_type : (ds : List Decl) (en : ℕ → List Operator) (n : Names) (before : List Decl) (w : Word) (es : List Entry) (ks : List Known) → length before ≤ 512 → ks ≡ knowns_in (8 + length before) ds → Sofar ds en n before
    → Sofar ds en (with_type n w ks) (before ++ (of_type w ∷ entry_decls (8 + length before) es))
unfolding find_type
one_type ds en n before w es ks l q s =
    let own = of_type w ∷ entry_decls (8 + length before) es in record {
      inputs = still-inputs ds en n before own s (none-cons 1 (of_type w) _ refl (entries_none 1 (8 + length before) es (values-apart (length before) 1 (omega arith))));
      outputs = still-outputs ds en n before own s (none-cons 2 (of_type w) _ refl (entries_none 2 (8 + length before) es (values-apart (length before) 2 (omega arith))));
      errors = still-errors ds en n before own s (none-cons 4 (of_type w) _ refl (entries_none 4 (8 + length before) es (values-apart (length before) 4 (omega arith))));
      types = λ v.
          rw (find-type-append, index-append, mapped-first, s.types v, index-type v (0 + length before) (length before) w es)
          (ap (first (mapped (λ i. knowns_in (8 + i) ds) (index_of 5 v 0 before)))
          (pick-mapped (same v w.text) (λ i. knowns_in (8 + i) ds) (0 + length before) ks none none (q ∙ ap (λ (i : ℕ). knowns_in (8 + i) ds) (sym (zero-add (length before)))) refl));
      operations = still-operations ds en n before own s (λ v.
          index-cons 6 v (0 + length before) (of_type w) _ refl ∙ index-entries 6 v (suc (0 + length before)) (8 + length before) es (high (length before) 6 (omega arith)));
      operators = still-operators ds en n before own s (values-ranked l);
      ranked = still-ranked ds en n before own s (values-ranked l);
    }
  where
    values-ranked : length before ≤ 512 → (v : List ℕ) → index_of 600 v (0 + length before) (of_type w ∷ entry_decls (8 + length before) es) ≡ none
    values-ranked l v = index-cons 600 v (0 + length before) (of_type w) _ refl ∙ index-entries 600 v (suc (0 + length before)) (8 + length before) es (ne_eqb (8 + length before) 600 (λ e. omega arith))

values_same : (p : Program) (ds : List Decl) (en : ℕ → List Operator) (w : Word) (es : List Entry) (n : Names) (before rest : List Decl) → length before ≤ 512 → ds ≡ before ++ (of_type w ∷ entry_decls (8 + length before) es ++ rest)
    → knowns_in (8 + length before) rest ≡ [] → Above before → Sofar ds en n before
    → Same (λ m. Sofar ds en m (before ++ (of_type w ∷ entry_decls (8 + length before) es))) (decl_faults ds en before (of_type w ∷ entry_decls (8 + length before) es)) (declare_section p (values w es) n)
unfolding declare_section decl_faults decl_fault
values_same p ds en w es n before rest l q none-later a s =
    let i = length before in
    let t : given (find_type w.text n.types) ≡ given (index_of 5 w.text 0 before) = rw (s.types w.text) (given-mapped (λ j. knowns_in (8 + j) ds) (index_of 5 w.text 0 before)) in
    let none_yet : [] ≡ knowns_in (8 + i) (before ++ (of_type w ∷ [])) =
    sym (knowns-append (8 + i) before (of_type w ∷ []) ∙ rw (a (8 + i) (omega arith) (λ e. omega arith)) (none-cons (8 + i) (of_type w) [] (type-apart i) (none-nil (8 + i)))) in
    rw t
    (tested _ (given (index_of 5 w.text 0 before)) 4 w _ _
    (finished (λ ks. ks ≡ knowns_in (8 + i) (before ++ (of_type w ∷ []) ++ entry_decls (8 + i) es)) (λ m. Sofar ds en m (before ++ (of_type w ∷ entry_decls (8 + i) es))) (with_type n w)
    (all_same ds en (8 + i) [] (λ _. Unit {0}) (λ b e k. tt)
    (λ b e k. plain-fault ds (en (length b)) (8 + i) b e (high i 5 (omega arith)) (high i 6 (omega arith)) (high i 7 (omega arith)) (ne_eqb (8 + i) 600 (λ e. omega arith)) (high i 1 (omega arith)) (high i 3 (omega arith)))
    es (before ++ (of_type w ∷ [])) [] tt none_yet)
    (λ ks h. one_type ds en n before w es ks l (h ∙ sym (own-members ds before rest w es q none-later)) s)))

-- Operators

pub alike : {A B : Type 0} (x : Checked A) {f g : A → Checked B} → ((a : A) → f a ≡ g a) → ◌>>=◌ x f ≡ ◌>>=◌ x g
alike (good a) h = h a
alike (wrong n w) h = refl

-- an entry that has no fault is what the classes of the whole row say
pub record Means (ds : List Decl) (e : Operator) (o : made.Operator) : Type 0 where
  pub token : find e.token.text (knowns_in 1 ds) ≡ some o.token
  pub level : e.level ≡ o.level
  pub right : e.right ≡ o.right
  pub emits : find e.emits.text (knowns_in 2 ds) ≡ some o.emits

pub entry-means : (ds : List Decl) (e : Operator) (before : List made.Operator) (o : made.Operator) → operator_in ds e before ≡ good o → Means ds e o
unfolding operator_in lookup_in
entry-means ds e before o =
    go (not (declared_in e.token.text ds)) (other_side e before || listed (find e.token.text (knowns_in 1 ds)) before)
    (find e.token.text (knowns_in 1 ds)) refl (find e.emits.text (knowns_in 2 ds)) refl
  where
    go : (a b : Bool) (t : Option ℕ) → find e.token.text (knowns_in 1 ds) ≡ t → (u : Option ℕ) → find e.emits.text (knowns_in 2 ds) ≡ u
        → ◌>>=◌ (fault_if a 3 e.token) (λ _. ◌>>=◌ (fault_if b 45 e.token) (λ _. ◌>>=◌ (elim t as (λ _. Checked ℕ) [ some v ↦ good v | none ↦ wrong (elsewhere_in ds e.token.text) e.token ]) (λ v.
        ◌>>=◌ (elim u as (λ _. Checked ℕ) [ some v ↦ good v | none ↦ wrong (elsewhere_in ds e.emits.text) e.emits ]) (λ x. good (record { token = v; level = e.level; right = e.right; emits = x })))))
        ≡ good o → Means ds e o
    go false false (some v) p (some x) q h =
        let k : record { token = v; level = e.level; right = e.right; emits = x } ≡ o = cc in
        record { token = p ∙ ap (λ (y : made.Operator). some y.token) k; level = ap (λ (y : made.Operator). y.level) k; right = ap (λ (y : made.Operator). y.right) k; emits = q ∙ ap (λ (y : made.Operator). some y.emits) k }
    go false false (some v) p none q h = let z : ◌≡◌ {A = ℕ} 0 1 = cc in absurd (omega arith)
    go false false none p u q h = let z : ◌≡◌ {A = ℕ} 0 1 = cc in absurd (omega arith)
    go false true t p u q h = let z : ◌≡◌ {A = ℕ} 0 1 = cc in absurd (omega arith)
    go true b t p u q h = let z : ◌≡◌ {A = ℕ} 0 1 = cc in absurd (omega arith)

pub value_found : (ds : List Decl) (c : ℕ) (w : Word) {v : ℕ} → find w.text (knowns_in c ds) ≡ some v → value_in ds c w ≡ v
unfolding value_in
value_found ds c w {v} h = go (find w.text (knowns_in c ds)) h
  where
    go : (x : Option ℕ) → x ≡ some v → elim x as (λ _. ℕ) [ some u ↦ u | none ↦ 0 ] ≡ v
    go (some u) q = cc
    go none q = cc

entry_found : (ds : List Decl) (e : Operator) (o : made.Operator) → Means ds e o → o ≡ operator_from ds e
entry_found ds e o m = rw (value_found ds 1 e.token m.token, value_found ds 2 e.emits m.emits, m.level, m.right)

entries-found : (ds : List Decl) (es : List Operator) (before os : List made.Operator) → operators_in ds es before ≡ good os → os ≡ before ++ operators_from ds es
unfolding operators_in operators_from
entries-found ds [] before os h = rw append-nil cc
entries-found ds (e ∷ es) before os h = go (operator_in ds e before) (λ o q. entry_found ds e o (entry-means ds e before o q)) (λ o q. entries-found ds es (before ++ (o ∷ [])) os q) h
  where
    go : (x : Checked made.Operator) → ((o : made.Operator) → x ≡ good o → o ≡ operator_from ds e) → ((o : made.Operator) → operators_in ds es (before ++ (o ∷ [])) ≡ good os → os ≡ before ++ (o ∷ []) ++ operators_from ds es)
        → ◌>>=◌ x (λ o. operators_in ds es (before ++ (o ∷ []))) ≡ good os → os ≡ before ++ (operator_from ds e ∷ operators_from ds es)
    go (good o) f k q = k o q ∙ append_snoc before o (operators_from ds es) ∙ ap (λ (y : made.Operator). before ++ (y ∷ operators_from ds es)) (f o refl)
    go (wrong n w) f k q = cc

-- by crate names and by the row, where declared, inputs and outputs are the same
module _ (p : Program) (ds : List Decl) (whole-declared : (w : List ℕ) → declared p w ≡ declared_in w ds) (ins : inputs_of p.sections ≡ knowns_in 1 ds) (outs : outputs_of p.sections ≡ knowns_in 2 ds) where
  entry-same : (e : Operator) (before : List made.Operator) → operator_of p e before ≡ operator_in ds e before
  unfolding operator_of operator_in
  entry-same e before = rw (ins, outs, whole-declared e.token.text, looked-up p ds 1 e.token (whole-declared e.token.text), looked-up p ds 2 e.emits (whole-declared e.emits.text))

  entries-same : (es : List Operator) (before : List made.Operator) → operators_of p es before ≡ operators_in ds es before
  unfolding operators_of operators_in
  entries-same [] before = refl
  entries-same (e ∷ es) before = rw (entry-same e before) (alike (operator_in ds e before) (λ o. entries-same es (before ++ (o ∷ []))))

-- the names with one section of operators more
abbrev with_operators : Names → Word → List made.Operator → Names
with_operators n w os = record { inputs = n.inputs; outputs = n.outputs; errors = n.errors; types = n.types; operations = n.operations; operators = n.operators ++ (record { named = w.text; levels = levels_of os } ∷ []) }

module _ (ds : List Decl) (en : ℕ → List Operator) (n : Names) (before : List Decl) (w : Word) (es : List Operator) (os : List made.Operator)
    (h : operators_in ds (en (length before)) [] ≡ good os) (s : Sofar ds en n before) where
  all_found : os ≡ operators_from ds (en (length before))
  all_found = entries-found ds (en (length before)) [] os h

  new-ranked : (v : List ℕ) (i : ℕ) → index_of 600 v 0 (before ++ (of_operators w es ∷ [])) ≡ some i → operators_in ds (en i) [] ≡ good (operators_from ds (en i))
  unfolding index_of
  new-ranked v i q = go (index_of 600 v 0 before) refl (same v w.text) (rw index-append at q)
    where
      own : (k : ℕ) → k ≡ 0 + length before → operators_in ds (en k) [] ≡ good (operators_from ds (en k))
      own k e = rw (e, zero-add) (h ∙ ap good all_found)

      go : (o : Option ℕ) → index_of 600 v 0 before ≡ o → (t : Bool) → first o (if t then some (0 + length before) else none) ≡ some i → operators_in ds (en i) [] ≡ good (operators_from ds (en i))
      go (some k) e t r = s.ranked v i (e ∙ r)
      go none e true r = own i cc
      go none e false r = cc

  one-section : Sofar ds en (with_operators n w os) (before ++ (of_operators w es ∷ []))
  unfolding find_operators index_of
  one-section = record {
    inputs = still-inputs ds en n before (of_operators w es ∷ []) s (none-cons 1 (of_operators w es) [] refl (none-nil 1));
    outputs = still-outputs ds en n before (of_operators w es ∷ []) s (none-cons 2 (of_operators w es) [] refl (none-nil 2));
    errors = still-errors ds en n before (of_operators w es ∷ []) s (none-cons 4 (of_operators w es) [] refl (none-nil 4));
    types = still-types ds en n before (of_operators w es ∷ []) s (λ v. index-operators 5 v (0 + length before) w es refl);
    operations = still-operations ds en n before (of_operators w es ∷ []) s (λ v. index-operators 6 v (0 + length before) w es refl);
    operators = λ v.
        rw (find-operators-append, index-append, mapped-first, s.operators v)
        (ap (first (mapped (λ i. levels_of (operators_from ds (en i))) (index_of 600 v 0 before)))
        (pick-mapped (same v w.text) (λ i. levels_of (operators_from ds (en i))) (0 + length before) (levels_of os) none none
        (ap levels_of all_found ∙ ap (λ (i : ℕ). levels_of (operators_from ds (en i))) (sym (zero-add (length before)))) refl));
    ranked = new-ranked;
  }

-- the two tests of a section, in both forms
two : {C : Type 0} (Q : C → Type 0) (g : List made.Operator → C) (t : Bool) (w : Word) (x : Checked (List made.Operator)) → ((os : List made.Operator) → x ≡ good os → Q (g os))
    → Same Q (◌>>=◌ (◌>>=◌ (fault_if t 4 w) (λ _. ◌>>=◌ x (λ _. done))) (λ _. done)) (◌>>=◌ (fault_if t 4 w) (λ _. ◌>>=◌ x (λ os. good (g os))))
two Q g true w x k = same-wrong
two Q g false w (wrong n v) k = same-wrong
two Q g false w (good os) k = same_good (k os refl)

operators-same : (p : Program) (ds : List Decl) (en : ℕ → List Operator) (whole-declared : (w : List ℕ) → declared p w ≡ declared_in w ds)
    → inputs_of p.sections ≡ knowns_in 1 ds → outputs_of p.sections ≡ knowns_in 2 ds → (w : Word) (es : List Operator) (n : Names) (before : List Decl)
    → en (length before) ≡ es → Sofar ds en n before
    → Same (λ m. Sofar ds en m (before ++ (of_operators w es ∷ []))) (decl_faults ds en before (of_operators w es ∷ [])) (declare_section p (operators w es) n)
unfolding declare_section decl_faults decl_fault operators_fault
operators-same p ds en whole-declared ins outs w es n before own s =
    let t : given (find_operators w.text n.operators) ≡ given (index_of 600 w.text 0 before) =
    rw (s.operators w.text) (given-mapped (λ i. levels_of (operators_from ds (en i))) (index_of 600 w.text 0 before)) in
    rw (t, entries-same p ds whole-declared ins outs es [], own)
    (two (λ m. Sofar ds en m (before ++ (of_operators w es ∷ []))) (with_operators n w) (given (index_of 600 w.text 0 before)) w (operators_in ds es [])
    (λ os h. one-section ds en n before w es os (rw own h) s))

module _ (p : Program) (ds : List Decl) (en : ℕ → List Operator) (whole-declared : (w : List ℕ) → declared p w ≡ declared_in w ds)
    (whole-type : (w : List ℕ) → is_type w p.sections ≡ given (index_of 5 w 0 ds)) (ins : inputs_of p.sections ≡ knowns_in 1 ds) (outs : outputs_of p.sections ≡ knowns_in 2 ds) (few : length ds ≤ 512) where
  section-same : (s : Section) (n : Names) (before rest : List Decl) (later : List Operator) → length before ≤ 512 → en (length before) ≡ entries_or (length before) s (length before) later → ds ≡ before ++ (section_decls (length before) s ++ rest)
      → (0 < length (section_decls (length before) s) → knowns_in (8 + length before) rest ≡ []) → Above before → Sofar ds en n before
      → Same (λ m. Sofar ds en m (before ++ section_decls (length before) s)) (decl_faults ds en before (section_decls (length before) s)) (declare_section p s n)
  unfolding section_decls declare_section entries_or
  section-same (inputs es) n before rest later l own q none-later a s =
      finished (λ ks. ks ≡ knowns_in 1 (before ++ entry_decls 1 es)) (λ m. Sofar ds en m (before ++ entry_decls 1 es))
      (λ ks. record { inputs = ks; outputs = n.outputs; errors = n.errors; types = n.types; operations = n.operations; operators = n.operators })
      (all_same ds en 1 n.operations (Known-operations n.operations) (λ b e. entry-operations n.operations 1 b e refl) (λ b. input-fault ds (en (length b)) n.operations b) es before n.inputs
      (known-operations ds en n before s) s.inputs)
      (λ ks h. record {
        inputs = h;
        outputs = still-outputs ds en n before (entry_decls 1 es) s (entries_none 2 1 es refl);
        errors = still-errors ds en n before (entry_decls 1 es) s (entries_none 4 1 es refl);
        types = still-types ds en n before (entry_decls 1 es) s (λ w. index-entries 5 w (0 + length before) 1 es refl);
        operations = still-operations ds en n before (entry_decls 1 es) s (λ w. index-entries 6 w (0 + length before) 1 es refl);
        operators = still-operators ds en n before (entry_decls 1 es) s (λ w. index-entries 600 w (0 + length before) 1 es refl);
        ranked = still-ranked ds en n before (entry_decls 1 es) s (λ w. index-entries 600 w (0 + length before) 1 es refl);
      })
  section-same (outputs es) n before rest later l own q none-later a s =
      finished (λ ks. ks ≡ knowns_in 2 (before ++ entry_decls 2 es)) (λ m. Sofar ds en m (before ++ entry_decls 2 es))
      (λ ks. record { inputs = n.inputs; outputs = ks; errors = n.errors; types = n.types; operations = n.operations; operators = n.operators })
      (all_same ds en 2 [] (λ _. Unit {0}) (λ b e k. tt) (λ b e k. plain-fault ds (en (length b)) 2 b e refl refl refl refl refl refl) es before n.outputs tt s.outputs)
      (λ ks h. record {
        inputs = still-inputs ds en n before (entry_decls 2 es) s (entries_none 1 2 es refl);
        outputs = h;
        errors = still-errors ds en n before (entry_decls 2 es) s (entries_none 4 2 es refl);
        types = still-types ds en n before (entry_decls 2 es) s (λ w. index-entries 5 w (0 + length before) 2 es refl);
        operations = still-operations ds en n before (entry_decls 2 es) s (λ w. index-entries 6 w (0 + length before) 2 es refl);
        operators = still-operators ds en n before (entry_decls 2 es) s (λ w. index-entries 600 w (0 + length before) 2 es refl);
        ranked = still-ranked ds en n before (entry_decls 2 es) s (λ w. index-entries 600 w (0 + length before) 2 es refl);
      })
  section-same (both es) n before rest later l own q none-later a s =
      finished (λ x. (x.0 ≡ knowns_in 1 (before ++ entry_decls 3 es)) × (x.1 ≡ knowns_in 2 (before ++ entry_decls 3 es))) (λ m. Sofar ds en m (before ++ entry_decls 3 es))
      (λ x. record { inputs = x.0; outputs = x.1; errors = n.errors; types = n.types; operations = n.operations; operators = n.operators })
      (both-same ds en n.operations es before n.inputs n.outputs (known-operations ds en n before s) s.inputs s.outputs)
      (λ x h. record {
        inputs = h.0;
        outputs = h.1;
        errors = still-errors ds en n before (entry_decls 3 es) s (entries_none 4 3 es refl);
        types = still-types ds en n before (entry_decls 3 es) s (λ w. index-entries 5 w (0 + length before) 3 es refl);
        operations = still-operations ds en n before (entry_decls 3 es) s (λ w. index-entries 6 w (0 + length before) 3 es refl);
        operators = still-operators ds en n before (entry_decls 3 es) s (λ w. index-entries 600 w (0 + length before) 3 es refl);
        ranked = still-ranked ds en n before (entry_decls 3 es) s (λ w. index-entries 600 w (0 + length before) 3 es refl);
      })
  section-same (errors es) n before rest later l own q none-later a s =
      finished (λ ks. ks ≡ knowns_in 4 (before ++ entry_decls 4 es)) (λ m. Sofar ds en m (before ++ entry_decls 4 es))
      (λ ks. record { inputs = n.inputs; outputs = n.outputs; errors = ks; types = n.types; operations = n.operations; operators = n.operators })
      (all_same ds en 4 [] (λ _. Unit {0}) (λ b e k. tt) (λ b e k. plain-fault ds (en (length b)) 4 b e refl refl refl refl refl refl) es before n.errors tt s.errors)
      (λ ks h. record {
        inputs = still-inputs ds en n before (entry_decls 4 es) s (entries_none 1 4 es refl);
        outputs = still-outputs ds en n before (entry_decls 4 es) s (entries_none 2 4 es refl);
        errors = h;
        types = still-types ds en n before (entry_decls 4 es) s (λ w. index-entries 5 w (0 + length before) 4 es refl);
        operations = still-operations ds en n before (entry_decls 4 es) s (λ w. index-entries 6 w (0 + length before) 4 es refl);
        operators = still-operators ds en n before (entry_decls 4 es) s (λ w. index-entries 600 w (0 + length before) 4 es refl);
        ranked = still-ranked ds en n before (entry_decls 4 es) s (λ w. index-entries 600 w (0 + length before) 4 es refl);
      })
  section-same (values w es) n before rest later l own q none-later a s = values_same p ds en w es n before rest l q (none-later (omega arith)) a s
  section-same (operations os) n before rest later l own q none-later a s = operations-same p ds en whole-declared whole-type os n before rest q s
  section-same (operators w es) n before rest later l own q none-later a s =
      operators-same p ds en whole-declared ins outs w es n before (own ∙ rw (eq-eqb (length before) (length before) refl)) s

  section-at : (s : Section) (i : ℕ) (n : Names) (before rest : List Decl) (later : List Operator) → i ≡ length before → i ≤ 512 → en i ≡ entries_or i s i later → ds ≡ before ++ (section_decls i s ++ rest)
      → (0 < length (section_decls i s) → knowns_in (8 + i) rest ≡ []) → Above before → Sofar ds en n before
      → Same (λ m. Sofar ds en m (before ++ section_decls i s)) (decl_faults ds en before (section_decls i s)) (declare_section p s n)
  section-at s i n before rest later l b own q h a f = rw l (section-same s n before rest later (rw l at b) (rw l at own) (rw l at q) (rw l at h) a f)

  -- the entries of later sections
  entries-later : (s : Section) (i j : ℕ) (later : List Operator) → i + length (section_decls i s) ≤ j → entries_or i s j later ≡ later
  unfolding entries_or section_decls
  entries-later (inputs es) i j later h = refl
  entries-later (outputs es) i j later h = refl
  entries-later (both es) i j later h = refl
  entries-later (errors es) i j later h = refl
  entries-later (values w es) i j later h = refl
  entries-later (operations os) i j later h = refl
  entries-later (operators w es) i j later h = rw (ne_eqb j i (λ e. omega arith))

  sections-same : (ss : List Section) (i : ℕ) (n : Names) (before : List Decl) → i ≡ length before → ((j : ℕ) → i ≤ j → en j ≡ entries_from i ss j) → ds ≡ before ++ (sections_decls i ss ++ rule_decls 0 p.rules) → Above before → Sofar ds en n before
      → Same (λ m. Sofar ds en m (before ++ sections_decls i ss)) (decl_faults ds en before (sections_decls i ss)) (declare_sections p ss n)
  unfolding sections_decls decl_faults declare_sections entries_from
  sections-same [] i n before l own q a s = same_good {a = n} (rw append-nil s)
  sections-same (x ∷ ss) i n before l entries q a s =
      let own = section_decls i x in
      let later = sections_decls (i + length own) ss in
      let rules = rule_decls 0 p.rules in
      let whole : ds ≡ before ++ (own ++ (later ++ rules)) = q ∙ ap (λ (r : List Decl). before ++ r) (append_assoc own later rules) in
      let room : i ≤ 512 = omega (arith, few, ap length q, length-append before (own ++ later ++ rules)) in
      rw (faults-append ds en before own later)
      (onward (λ m. Sofar ds en m (before ++ own)) _ (λ _. decl_faults ds en (before ++ own) later) (declare_sections p ss)
      (section-at x i n before (later ++ rules) (entries_from (i + length own) ss i) l room (entries i (omega arith)) whole
      (λ h. later-none (8 + i) (i + length own) ss 0 p.rules (valued (8 + i) (omega arith) (λ e. omega arith)) (omega arith)) a s)
      (λ _ m h.
      weaken (λ k. Sofar ds en k (before ++ own ++ later)) (λ k. Sofar ds en k (before ++ (own ++ later))) (λ k y. rw append_assoc at y)
      (sections-same ss (i + length own) m (before ++ own) (omega (arith, length-append before own))
      (λ j b. entries j (omega arith) ∙ entries-later x i j (entries_from (i + length own) ss j) b) (whole ∙ sym (append_assoc before own (later ++ rules))) (above_at x i before l a) h)))

-- The theorem

empty-row : (w : List ℕ) (i : ℕ) → index_of 600 w 0 [] ≡ some i → ⊥
unfolding index_of
empty-row w i h = let z : ◌≡◌ {A = ℕ} 0 1 = cc in absurd (omega arith)

nobody-sofar : (ds : List Decl) (en : ℕ → List Operator) → Sofar ds en nobody []
unfolding nobody find_type find_operation find_operators
nobody-sofar ds en = record {
  inputs = sym (none-nil 1);
  outputs = sym (none-nil 2);
  errors = sym (none-nil 4);
  types = λ w. rw index-nil;
  operations = λ w. rw index-nil;
  operators = λ w. rw index-nil;
  ranked = λ w i h. absurd (empty-row w i h);
}

-- a rule's row has no fault of its own
rules-faultless : (ds : List Decl) (en : ℕ → List Operator) (before : List Decl) (i : ℕ) (rs : List Rule) → decl_faults ds en before (rule_decls i rs) ≡ good tt
unfolding decl_faults rule_decls decl_fault
rules-faultless ds en before i [] = refl
rules-faultless ds en before i (r ∷ rs) = rules-faultless ds en (before ++ (of_rule i r ∷ [])) (suc i) rs

and-good : (x : Checked (Unit {0})) → ◌>>=◌ x (λ _. done) ≡ x
and-good (good u) = refl
and-good (wrong n w) = refl

whole_row : (p : Program) → decls_of p ≡ sections_decls 0 p.sections ++ rule_decls 0 p.rules
unfolding decls_of
whole_row p = refl

pub rules-declare : (p : Program) → decl_faults (decls_of p) (entries_of p) [] (decls_of p) ≡ decl_faults (decls_of p) (entries_of p) [] (sections_decls 0 p.sections)
rules-declare p = ap (decl_faults (decls_of p) (entries_of p) []) (whole_row p) ∙ faults-append (decls_of p) (entries_of p) [] (sections_decls 0 p.sections) (rule_decls 0 p.rules) ∙ rw rules-faultless (and-good _)

agrees : (p : Program) (n : Names) → Sofar (decls_of p) (entries_of p) n (sections_decls 0 p.sections) → Agrees p n (known_rules 0 p.rules) (decls_of p)
agrees p n s =
    let rules = rule_decls 0 p.rules in
    let before = sections_decls 0 p.sections in
    record {
      inputs = still-inputs (decls_of p) (entries_of p) n before rules s (rules_none 1 0 p.rules refl) ∙ ap (knowns_in 1) (sym (whole_row p));
      outputs = still-outputs (decls_of p) (entries_of p) n before rules s (rules_none 2 0 p.rules refl) ∙ ap (knowns_in 2) (sym (whole_row p));
      errors = still-errors (decls_of p) (entries_of p) n before rules s (rules_none 4 0 p.rules refl) ∙ ap (knowns_in 4) (sym (whole_row p));
      types = λ w. still-types (decls_of p) (entries_of p) n before rules s (λ v. index-rules 5 v (0 + length before) 0 p.rules refl) w
          ∙ ap (λ (r : List Decl). mapped (λ i. knowns_in (8 + i) (decls_of p)) (index_of 5 w 0 r)) (sym (whole_row p));
      operations = λ w. still-operations (decls_of p) (entries_of p) n before rules s (λ v. index-rules 6 v (0 + length before) 0 p.rules refl) w
          ∙ ap (λ (r : List Decl). mapped (λ i. operation_from (decls_of p) (decl_of (decls_of p) i)) (index_of 6 w 0 r)) (sym (whole_row p));
      operators = λ w. still-operators (decls_of p) (entries_of p) n before rules s (λ v. index-rules 600 v (0 + length before) 0 p.rules refl) w
          ∙ ap (λ (r : List Decl). mapped (λ i. levels_of (operators_from (decls_of p) (entries_of p i))) (index_of 600 w 0 r)) (sym (whole_row p));
      ranked = λ w i h. still-ranked (decls_of p) (entries_of p) n before rules s (λ v. index-rules 600 v (0 + length before) 0 p.rules refl) w i
          (ap (index_of 600 w 0) (sym (whole_row p)) ∙ h);
      rules = is_rule p;
      declared = is_declared p;
      is_type = is-type p;
      nowhere = class-0 p;
    }

own-entries : (p : Program) (j : ℕ) → 0 ≤ j → entries_of p j ≡ entries_from 0 p.sections j
unfolding entries_of
own-entries p j h = refl

-- 512 names or fewer: the first fault of the declarations is that of crate names; where there is none, the names agree with the row
pub declares : (p : Program) → length (decls_of p) ≤ 512 → Declares p (decl_faults (decls_of p) (entries_of p) [] (decls_of p)) (declare_sections p p.sections nobody)
declares p few =
    rw (rules-declare p)
    (go (sections-same p (decls_of p) (entries_of p) (is_declared p) (is-type p) (whole-inputs p) (whole-outputs p) few p.sections 0 nobody [] refl (own-entries p) (whole_row p) (λ c h o. none-nil c)
    (nobody-sofar (decls_of p) (entries_of p))))
  where
    go : {x : Checked (Unit {0})} {y : Checked Names} → Same (λ m. Sofar (decls_of p) (entries_of p) m (sections_decls 0 p.sections)) x y → Declares p x y
    go same-wrong = declared_wrong
    go (same_good h) = declared_good (agrees p _ h)

-- the same, for a fault in hand and for none

from_wrong : {p : Program} {x : Checked (Unit {0})} {y : Checked Names} {k : ℕ} {w : Word} → Declares p x y → x ≡ wrong k w → y ≡ wrong k w
from_wrong declared_wrong e = cc
from_wrong (declared_good h) e = cc

from-good : {p : Program} {x : Checked (Unit {0})} {y : Checked Names} → Declares p x y → x ≡ good tt → (n : Names) × (y ≡ good n) × Agrees p n (known_rules 0 p.rules) (decls_of p)
from-good declared_wrong e = let z : ◌≡◌ {A = ℕ} 0 1 = cc in absurd (omega arith)
from-good (declared_good {n = n} h) e = (n, refl, h)

pub declares-wrong : (p : Program) → length (decls_of p) ≤ 512 → (k : ℕ) (w : Word) → decl_faults (decls_of p) (entries_of p) [] (decls_of p) ≡ wrong k w → declare_sections p p.sections nobody ≡ wrong k w
declares-wrong p few k w e = from_wrong (declares p few) e

pub declares-good : (p : Program) → length (decls_of p) ≤ 512 → decl_faults (decls_of p) (entries_of p) [] (decls_of p) ≡ good tt
    → (n : Names) × (declare_sections p p.sections nobody ≡ good n) × Agrees p n (known_rules 0 p.rules) (decls_of p)
declares-good p few e = from-good (declares p few) e
