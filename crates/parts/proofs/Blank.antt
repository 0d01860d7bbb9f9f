-- What a program means does not depend on the places of its words.
use mathlib.Core.Bool.{Bool, true, false, ◌&&◌, ◌||◌, not}
use mathlib.Core.List.{List, [], ◌∷◌, ◌++◌}
use mathlib.Core.Option.{Option, none, some}
use mathlib.Core.Path.{◌≡◌, refl, ap, ◌∙◌}
use Prim.Native.Nat.{ℕ, suc, ◌+◌}
use lib.Dec.{ltb}
use lib.ListN.{length}
use Rattle.base.specs.Common.{member, given}
use Rattle.names.specs.Declare.{knowns, values_of, spelled, repeats, clashes, declare_all, declare_both, with_operations, declare_operations, all_knowns, inputs_of, outputs_of, other_side, listed, operator_of, operators_of, declare_section, declare_sections, known_rules}
use Rattle.names.specs.Known.{Checked, good, wrong, ◌>>=◌, fault_if, Known, KnownType, KnownOperation, KnownRule, Names, find, find_type, find_operation, find_operators, is_word, among_entries, among_operations, among_rules, in_section, in_sections, declared, is_type, lookup, optional_type}
use Rattle.names.specs.Resolve.{Place, acts_of}
use Rattle.names.specs.Understand.{nobody, taken, is_first, rule_means, rules_mean, understand}
use Rattle.names.specs.Uses.{Use, pairs_of, levels_used, operand_of, made_for}
use Rattle.parts.proofs.Alike.{Like, both-good, both-wrong, like-on, like-back, like-next, id}
use Rattle.parts.proofs.Shifted.{shift-good, shift-wrong, Shift, pairs-moved, lookup-moved, optional-moved, acts-moved}
use Rattle.parts.specs.Blank.{nowhere, blank, blank_if, blank_acts, blank_entry, blank_entries, blank_operation, blank_operations, blank_operator, blank_operators, blank_section, blank_sections, blank_rule, blank_rules, blank_program}
use Rattle.parts.specs.Moved.{move_word, move_if, move_rule, move_rules, move_use, move_uses}
use Rattle.program.specs.Made as made
use Rattle.program.specs.Made.{level_rules, crowded}
use Rattle.program.specs.Past.{past_all}
use Rattle.program.specs.Program as means
use Rattle.syntax.specs.Sections.{names_in, names_in_all}
use Rattle.syntax.specs.Written as written
use Rattle.syntax.specs.Written.{Entry, Operation, Operator, Section, inputs, outputs, both, errors, values, operations, operators, Program}
use Rattle.words.specs.Words.{Word}

-- a test on both sides, at two words
blank-if : {B : Type 0} (t t' : Bool) (n : ℕ) (w w' : Word) (f f' : Unit {0} → Checked B) → t ≡ t' → Like id (f tt) (f' tt) → Like id (◌>>=◌ (fault_if t n w) f) (◌>>=◌ (fault_if t' n w') f')
blank-if {B} t t' n w w' f f' e h = rw e (go t')
  where
    go : (t : Bool) → Like {A = B} {B = B} id (◌>>=◌ (fault_if t n w) f) (◌>>=◌ (fault_if t n w') f')
    go true = both-wrong
    go false = h

same-like : {A : Type 0} {m m' : Checked A} → m ≡ m' → Like {A = A} {B = A} id m m'
same-like {A} {m} {m'} e = rw e (go m')
  where
    go : (m : Checked A) → Like {A = A} {B = A} id m m
    go (good a) = both-good a
    go (wrong n w) = both-wrong

-- a fault at another place is a fault
shift-like : {A : Type 0} {m' m : Checked A} → Shift nowhere {A = A} {B = A} id m' m → Like {A = A} {B = A} id m' m
shift-like (shift-good a) = both-good a
shift-like shift-wrong = both-wrong

-- Words and entries

spelt-knowns : (v : ℕ) (x : Option Word) → ◌≡◌ {A = List Known} (elim (blank_if x) as (λ _. List Known) [ none ↦ [] | some w ↦ record { named = w.text; value = v } ∷ [] ])
    (elim x as (λ _. List Known) [ none ↦ [] | some w ↦ record { named = w.text; value = v } ∷ [] ])
unfolding move_if move_word
spelt-knowns v none = refl
spelt-knowns v (some w) = refl

entry-knowns : (e : Entry) → knowns (blank_entry e) ≡ knowns e
unfolding knowns blank_entry move_word
entry-knowns e = ap (λ (x : List Known). record { named = e.entry.text; value = e.value } ∷ x) (spelt-knowns e.value e.spelt)

spelled-blank : (x : Option Word) (ks : List Known) → spelled (blank_if x) ks ≡ spelled x ks
unfolding spelled move_if move_word
spelled-blank none ks = refl
spelled-blank (some w) ks = refl

repeats-blank : (e : Entry) (ks : List Known) → repeats (blank_entry e) ks ≡ repeats e ks
unfolding repeats blank_entry move_word
repeats-blank e ks = ap (λ (t : Bool). given (find e.entry.text ks) || t || member e.value (values_of ks)) (spelled-blank e.spelt ks)

clashes-blank : (e : Entry) (os : List KnownOperation) → clashes (blank_entry e) os ≡ clashes e os
unfolding clashes blank_entry move_word
clashes-blank e os = refl

all-blank : (es : List Entry) (have : List Known) (os : List KnownOperation) → Like id (declare_all (blank_entries es) have os) (declare_all es have os)
unfolding declare_all blank_entries
all-blank [] have os = both-good have
all-blank (e ∷ es) have os =
    blank-if (repeats (blank_entry e) have || clashes (blank_entry e) os) (repeats e have || clashes e os) 4 (blank_entry e).entry e.entry _ _ (rw (repeats-blank e have, clashes-blank e os))
    (rw (entry-knowns e) (all-blank es (have ++ knowns e) os))

both-blank : (es : List Entry) (ins outs : List Known) (os : List KnownOperation) → Like id (declare_both (blank_entries es) ins outs os) (declare_both es ins outs os)
unfolding declare_both blank_entries
both-blank [] ins outs os = both-good (ins, outs)
both-blank (e ∷ es) ins outs os =
    blank-if (repeats (blank_entry e) ins || repeats (blank_entry e) outs || clashes (blank_entry e) os) (repeats e ins || repeats e outs || clashes e os) 4 (blank_entry e).entry e.entry _ _
    (rw (repeats-blank e ins, repeats-blank e outs, clashes-blank e os))
    (rw (entry-knowns e) (both-blank es (ins ++ knowns e) (outs ++ knowns e) os))

-- Declared anywhere

is_word_lem : (w : List ℕ) (x : Option Word) → is_word w (blank_if x) ≡ is_word w x
unfolding is_word move_if move_word
is_word_lem w none = refl
is_word_lem w (some v) = refl

among-entries : (w : List ℕ) (es : List Entry) → among_entries w (blank_entries es) ≡ among_entries w es
unfolding among_entries blank_entries blank_entry move_word
among-entries w [] = refl
among-entries w (e ∷ es) = rw (is_word_lem w e.spelt, among-entries w es)

among-operations : (w : List ℕ) (os : List Operation) → among_operations w (blank_operations os) ≡ among_operations w os
unfolding among_operations blank_operations blank_operation move_word
among-operations w [] = refl
among-operations w (o ∷ os) = rw (among-operations w os)

among-rules : (w : List ℕ) (rs : List written.Rule) → among_rules w (blank_rules rs) ≡ among_rules w rs
unfolding among_rules move_rules move_rule move_word
among-rules w [] = refl
among-rules w (r ∷ rs) = rw (among-rules w rs)

in-section : (w : List ℕ) (s : Section) → in_section w (blank_section s) ≡ in_section w s
unfolding in_section blank_section move_word
in-section w (inputs es) = among-entries w es
in-section w (outputs es) = among-entries w es
in-section w (both es) = among-entries w es
in-section w (errors es) = among-entries w es
in-section w (values t es) = rw (among-entries w es)
in-section w (operations os) = among-operations w os
in-section w (operators t os) = refl

in-sections : (w : List ℕ) (ss : List Section) → in_sections w (blank_sections ss) ≡ in_sections w ss
unfolding in_sections blank_sections
in-sections w [] = refl
in-sections w (s ∷ ss) = rw (in-section w s, in-sections w ss)

is_declared : (p : Program) (w : List ℕ) → declared (blank_program p) w ≡ declared p w
unfolding declared blank_program
is_declared p w = rw (in-sections w p.sections, among-rules w p.rules)

is-type : (w : List ℕ) (ss : List Section) → is_type w (blank_sections ss) ≡ is_type w ss
unfolding is_type blank_sections blank_section move_word
is-type w [] = refl
is-type w (inputs es ∷ ss) = is-type w ss
is-type w (outputs es ∷ ss) = is-type w ss
is-type w (both es ∷ ss) = is-type w ss
is-type w (errors es ∷ ss) = is-type w ss
is-type w (values t es ∷ ss) = rw (is-type w ss)
is-type w (operations os ∷ ss) = is-type w ss
is-type w (operators t os ∷ ss) = is-type w ss

all-knowns : (es : List Entry) → all_knowns (blank_entries es) ≡ all_knowns es
unfolding all_knowns blank_entries
all-knowns [] = refl
all-knowns (e ∷ es) = rw (entry-knowns e, all-knowns es)

inputs-blank : (ss : List Section) → inputs_of (blank_sections ss) ≡ inputs_of ss
unfolding inputs_of blank_sections blank_section
inputs-blank [] = refl
inputs-blank (inputs es ∷ ss) = rw (all-knowns es, inputs-blank ss)
inputs-blank (outputs es ∷ ss) = inputs-blank ss
inputs-blank (both es ∷ ss) = rw (all-knowns es, inputs-blank ss)
inputs-blank (errors es ∷ ss) = inputs-blank ss
inputs-blank (values w es ∷ ss) = inputs-blank ss
inputs-blank (operations os ∷ ss) = inputs-blank ss
inputs-blank (operators w os ∷ ss) = inputs-blank ss

outputs-blank : (ss : List Section) → outputs_of (blank_sections ss) ≡ outputs_of ss
unfolding outputs_of blank_sections blank_section
outputs-blank [] = refl
outputs-blank (inputs es ∷ ss) = outputs-blank ss
outputs-blank (outputs es ∷ ss) = rw (all-knowns es, outputs-blank ss)
outputs-blank (both es ∷ ss) = rw (all-knowns es, outputs-blank ss)
outputs-blank (errors es ∷ ss) = outputs-blank ss
outputs-blank (values w es ∷ ss) = outputs-blank ss
outputs-blank (operations os ∷ ss) = outputs-blank ss
outputs-blank (operators w os ∷ ss) = outputs-blank ss

-- Uses of operators

levels-blank : (n : Names) (u : Use) → levels_used n (move_use nowhere u) ≡ levels_used n u
unfolding levels_used move_use move_word
levels-blank n u = refl

operand-blank : (ks : List KnownRule) (u : Use) → operand_of ks (move_use nowhere u) ≡ operand_of ks u
unfolding operand_of move_use move_word
operand-blank ks u = refl

made-blank : (n : Names) (ks : List KnownRule) (others own : ℕ) (us : List Use) → Like id (made_for n ks others own (move_uses nowhere us)) (made_for n ks others own us)
unfolding made_for move_uses
made-blank n ks others own [] = both-good []
made-blank n ks others own (u ∷ us) =
    let ls = levels_used n u in
    let t = ltb 128 (own + length ls) || ltb 512 (others + (own + length ls)) || crowded ls in
    rw (levels-blank n u) (
    blank-if t t 9 (move_use nowhere u).sign u.sign _ _ refl (
    like-next id id _ _ (made-blank n ks others (own + length ls) us) (λ more _.
    same-like (ap (λ (i : ℕ). good (level_rules own i ls ++ more)) (operand-blank ks u)))))

rules-length : (rs : List written.Rule) → length (blank_rules rs) ≡ length rs
unfolding move_rules
rules-length [] = refl
rules-length (r ∷ rs) = ap suc (rules-length rs)

known-blank : (i : ℕ) (rs : List written.Rule) → known_rules i (blank_rules rs) ≡ known_rules i rs
unfolding known_rules move_rules move_rule move_word
known-blank i [] = refl
known-blank i (r ∷ rs) = rw (type-text r.gives, known-blank (suc i) rs)
  where
    type-text : (x : Option Word) → ◌≡◌ {A = Option (List ℕ)} (elim (blank_if x) as (λ _. Option (List ℕ)) [ none ↦ none | some w ↦ some w.text ]) (elim x as (λ _. Option (List ℕ)) [ none ↦ none | some w ↦ some w.text ])
    type-text none = unfold move_if in refl
    type-text (some w) = unfold move_if move_word in refl

pub entries-length : (es : List Entry) → length (blank_entries es) ≡ length es
unfolding blank_entries
entries-length [] = refl
entries-length (e ∷ es) = ap suc (entries-length es)

pub operations-length : (os : List Operation) → length (blank_operations os) ≡ length os
unfolding blank_operations
operations-length [] = refl
operations-length (o ∷ os) = ap suc (operations-length os)

names_in_lem : (s : Section) → names_in (blank_section s) ≡ names_in s
unfolding names_in blank_section
names_in_lem (inputs es) = entries-length es
names_in_lem (outputs es) = entries-length es
names_in_lem (both es) = entries-length es
names_in_lem (errors es) = entries-length es
names_in_lem (values w es) = rw (entries-length es)
names_in_lem (operations os) = operations-length os
names_in_lem (operators w os) = refl

names-in-all : (ss : List Section) → names_in_all (blank_sections ss) ≡ names_in_all ss
unfolding names_in_all blank_sections
names-in-all [] = refl
names-in-all (s ∷ ss) = rw (names_in_lem s, names-in-all ss)

-- What a word stands for

same-types : (p : Program) (w : List ℕ) → is_type w (blank_program p).sections ≡ is_type w p.sections
unfolding blank_program
same-types p w = is-type w p.sections

same_length : (p : Program) → length (blank_program p).rules ≡ length p.rules
unfolding blank_program
same_length p = rules-length p.rules

same-pairs : (p : Program) → pairs_of (blank_program p).rules ≡ move_uses nowhere (pairs_of p.rules)
unfolding blank_program
same-pairs p = pairs-moved nowhere p.rules

module _ (p : Program) where
  abbrev b : Program
  b = blank_program p

  lookup-blank : (ks : List Known) (w : Word) → Like id (lookup b ks (blank w)) (lookup p ks w)
  lookup-blank ks w = shift-like (lookup-moved nowhere b p (is_declared p) (same-types p) ks w)

  optional-blank : (ts : List KnownType) (x : Option Word) → Like id (optional_type b ts (blank_if x)) (optional_type p ts x)
  optional-blank ts x = shift-like (optional-moved nowhere b p (is_declared p) (same-types p) ts x)

  -- Sections

  operations-blank : (os : List Operation) (n : Names) → Like id (declare_operations b (blank_operations os) n) (declare_operations p os n)
  unfolding declare_operations blank_operations blank_operation move_word
  operations-blank [] n = both-good n
  operations-blank (o ∷ os) n =
      let w = o.operation in
      let t = given (find_operation w.text n.operations) || given (find w.text n.inputs) in
      blank-if t t 4 (blank w) w _ _ refl (
      like-next id id _ _ (optional-blank n.types o.takes) (λ t₁ _.
      like-next id id _ _ (optional-blank n.types o.gives) (λ g _.
      operations-blank os (with_operations n (n.operations ++ (record { named = w.text; instruction = o.instruction; takes = t₁; gives = g } ∷ []))))))

  side-blank : (e : Operator) (os : List made.Operator) → other_side (blank_operator e) os ≡ other_side e os
  unfolding other_side blank_operator
  side-blank e [] = refl
  side-blank e (o ∷ os) = rw (side-blank e os)

  operator-blank : (e : Operator) (before : List made.Operator) → Like id (operator_of b (blank_operator e) before) (operator_of p e before)
  unfolding operator_of blank_operator move_word blank_program
  operator-blank e before =
      let w = e.token in
      let t = other_side e before || listed (find w.text (inputs_of p.sections)) before in
      let i = inputs-blank p.sections in
      let o = outputs-blank p.sections in
      rw (side-blank e before, i, o) (
      blank-if (not (declared b w.text)) (not (declared p w.text)) 3 (blank w) w _ _ (ap not (is_declared p w.text)) (
      blank-if t t 45 (blank w) w _ _ refl (
      like-next id id _ _ (lookup-blank (inputs_of p.sections) w) (λ v _.
      like-next id id _ _ (lookup-blank (outputs_of p.sections) e.emits) (λ x _.
      both-good (record { token = v; level = e.level; right = e.right; emits = x }))))))

  operators-blank : (es : List Operator) (before : List made.Operator) → Like id (operators_of b (blank_operators es) before) (operators_of p es before)
  unfolding operators_of blank_operators
  operators-blank [] before = both-good before
  operators-blank (e ∷ es) before = like-next id id _ _ (operator-blank e before) (λ o _. operators-blank es (before ++ (o ∷ [])))

  section-blank : (s : Section) (n : Names) → Like id (declare_section b (blank_section s) n) (declare_section p s n)
  unfolding declare_section blank_section move_word
  section-blank (inputs es) n = like-next id id _ _ (all-blank es n.inputs n.operations) (λ ks _. same-like refl)
  section-blank (outputs es) n = like-next id id _ _ (all-blank es n.outputs []) (λ ks _. same-like refl)
  section-blank (both es) n = like-next id id _ _ (both-blank es n.inputs n.outputs n.operations) (λ ks _. same-like refl)
  section-blank (errors es) n = like-next id id _ _ (all-blank es n.errors []) (λ ks _. same-like refl)
  section-blank (values w es) n =
      let t = given (find_type w.text n.types) in
      blank-if t t 4 (blank w) w _ _ refl (like-next id id _ _ (all-blank es [] []) (λ ks _. same-like refl))
  section-blank (operations os) n = operations-blank os n
  section-blank (operators w es) n =
      let t = given (find_operators w.text n.operators) in
      blank-if t t 4 (blank w) w _ _ refl (like-next id id _ _ (operators-blank es []) (λ os _. same-like refl))

  sections-blank : (ss : List Section) (n : Names) → Like id (declare_sections b (blank_sections ss) n) (declare_sections p ss n)
  unfolding declare_sections blank_sections
  sections-blank [] n = both-good n
  sections-blank (s ∷ ss) n = like-next id id _ _ (section-blank s n) (λ m _. sections-blank ss m)

  -- Rules

  module _ (n : Names) (ks : List KnownRule) where
    acts-blank : (q : written.Acts) (at : Place) → Like id (acts_of b n ks (blank_acts q) at) (acts_of p n ks q at)
    acts-blank q at = shift-like (acts-moved nowhere b p (is_declared p) (same-types p) (same_length p) (same-pairs p) n ks q at)

    given-blank : (x : Option Word) → given (blank_if x) ≡ given x
    unfolding move_if
    given-blank none = refl
    given-blank (some w) = refl

    rule-blank : (seen : List (List ℕ)) (r : written.Rule) → Like id (rule_means b n ks seen (blank_rule r)) (rule_means p n ks seen r)
    unfolding rule_means move_rule taken move_word
    rule-blank seen r =
        let t = taken r.rule n seen in
        blank-if t t 4 (blank r.rule) r.rule _ _ refl (
        blank-if (is_first seen && given (blank_if r.gives)) (is_first seen && given r.gives) 5 (blank r.rule) r.rule _ _ (ap (λ (x : Bool). is_first seen && x) (given-blank r.gives)) (
        like-next id id _ _ (optional-blank n.types r.gives) (λ g _.
        like-next id id _ _ (acts-blank r.body (record { inside = false; gives = g })) (λ x _.
        blank-if (given g && past_all x) (given g && past_all x) 8 (blank r.closing) r.closing _ _ refl (same-like refl)))))

    rules-blank : (seen : List (List ℕ)) (rs : List written.Rule) → Like id (rules_mean b n ks seen (blank_rules rs)) (rules_mean p n ks seen rs)
    unfolding rules_mean move_rules move_rule move_word
    rules-blank seen [] = both-good []
    rules-blank seen (r ∷ rs) =
        like-next id id _ _ (rule-blank seen r) (λ m _. like-next id id _ _ (rules-blank (r.rule.text ∷ seen) rs) (λ ms _. both-good (m ∷ ms)))

  pub understand-blank : Like id (understand b) (understand p)
  unfolding understand blank_program
  understand-blank =
      like-next id id _ _ (sections-blank p.sections nobody) (λ n _.
      rw (known-blank 0 p.rules, names-in-all p.sections, rules-length p.rules, pairs-moved nowhere p.rules) (
      like-next id id _ _ (rules-blank n (known_rules 0 p.rules) [] p.rules) (λ own _.
      like-next id id _ _ (made-blank n (known_rules 0 p.rules) (names_in_all p.sections) (length p.rules) (pairs_of p.rules)) (λ ms _. both-good (own ++ ms)))))

-- two programs with the same words mean the same
pub same-meaning : (p q : Program) → blank_program p ≡ blank_program q → (prog : List means.Rule) → understand p ≡ good prog → understand q ≡ good prog
same-meaning p q e prog h =
    let x = like-back id (understand-blank p) prog h in
    let y : understand (blank_program p) ≡ good prog = x.gives ∙ ap good x.is in
    like-on id (understand-blank q) prog (rw e at y)
