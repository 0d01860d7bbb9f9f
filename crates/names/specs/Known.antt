-- What is declared, class by class, and what a word then stands for. Faults 3 and 5: "3 name or string declared nowhere, or a type not
-- yet declared", "5 declared, but not in the class wanted here". A string's bytes have its quotes, so strings and names never clash.
use Rattle.std.specs.Prelude.{Bool, true, false, ◌||◌, List, [], ◌∷◌, ℕ, if◌then◌else◌}
use Rattle.std.proofs.Math.Option.{Option, none, some}
use Rattle.base.specs.Common.{same}
use Rattle.program.specs.Made.{Level}
use Rattle.syntax.specs.Written.{Entry, Operation, Section, inputs, outputs, both, errors, values, operations, operators, Rule, Program}
use Rattle.words.specs.Words.{Word}

-- a result, or a fault and its word
pub data Checked (A : Type 0) : Type 0 where
  good : A → Checked A
  wrong : ℕ → Word → Checked A

abbrev pub ◌>>=◌ : {A B : Type 0} → Checked A → (A → Checked B) → Checked B
◌>>=◌ (good a) f = f a
◌>>=◌ (wrong n w) f = wrong n w

-- the fault where the test holds
abbrev pub fault_if : Bool → ℕ → Word → Checked (Unit {0})
fault_if true n w = wrong n w
fault_if false n w = good tt

-- a name or string of a class, and its value
pub record Known : Type 0 where
  pub named : List ℕ
  pub value : ℕ

pub record KnownType : Type 0 where
  pub named : List ℕ
  pub members : List Known

-- the members of the types of its parameter and of its answer
pub record KnownOperation : Type 0 where
  pub named : List ℕ
  pub instruction : ℕ
  pub takes : Option (List Known)
  pub gives : Option (List Known)

-- a rule's place in the text, and the name of its type
pub record KnownRule : Type 0 where
  pub named : List ℕ
  pub place : ℕ
  pub gives : Option (List ℕ)

-- an operators section, and its levels
pub record KnownOperators : Type 0 where
  pub named : List ℕ
  pub levels : List Level

-- the classes: "input tokens, output tokens, errors, type names, the values of each type, rules with operations"; operators sections are "a class of their own"
pub record Names : Type 0 where
  pub inputs : List Known
  pub outputs : List Known
  pub errors : List Known
  pub types : List KnownType
  pub operations : List KnownOperation
  pub operators : List KnownOperators

-- Looking up: the first of a name

unfoldable pub find : List ℕ → List Known → Option ℕ
find w [] = none
find w (k ∷ ks) = let later = find w ks in if same w k.named then some k.value else later

unfoldable pub find_type : List ℕ → List KnownType → Option (List Known)
find_type w [] = none
find_type w (k ∷ ks) = let later = find_type w ks in if same w k.named then some k.members else later

unfoldable pub find_operation : List ℕ → List KnownOperation → Option KnownOperation
find_operation w [] = none
find_operation w (k ∷ ks) = let later = find_operation w ks in if same w k.named then some k else later

unfoldable pub find_operators : List ℕ → List KnownOperators → Option (List Level)
find_operators w [] = none
find_operators w (k ∷ ks) = let later = find_operators w ks in if same w k.named then some k.levels else later

unfoldable pub find_rule : List ℕ → List KnownRule → Option KnownRule
find_rule w [] = none
find_rule w (k ∷ ks) = let later = find_rule w ks in if same w k.named then some k else later

-- Declared anywhere in the text

unfoldable pub is_word : List ℕ → Option Word → Bool
is_word w none = false
is_word w (some v) = same w v.text

unfoldable pub among_entries : List ℕ → List Entry → Bool
among_entries w [] = false
among_entries w (e ∷ es) = same w e.entry.text || is_word w e.spelt || among_entries w es

unfoldable pub among_operations : List ℕ → List Operation → Bool
among_operations w [] = false
among_operations w (o ∷ os) = same w o.operation.text || among_operations w os

unfoldable pub among_rules : List ℕ → List Rule → Bool
among_rules w [] = false
among_rules w (r ∷ rs) = same w r.rule.text || among_rules w rs

unfoldable pub in_section : List ℕ → Section → Bool
in_section w (inputs es) = among_entries w es
in_section w (outputs es) = among_entries w es
in_section w (both es) = among_entries w es
in_section w (errors es) = among_entries w es
in_section w (values t es) = same w t.text || among_entries w es
in_section w (operations os) = among_operations w os
in_section w (operators e os) = same w e.text

unfoldable pub in_sections : List ℕ → List Section → Bool
in_sections w [] = false
in_sections w (s ∷ ss) = in_section w s || in_sections w ss

-- the name or string is declared in some class
unfoldable pub declared : Program → List ℕ → Bool
declared p w = in_sections w p.sections || among_rules w p.rules

-- the name is declared as a type
unfoldable pub is_type : List ℕ → List Section → Bool
is_type w [] = false
is_type w (inputs es ∷ ss) = is_type w ss
is_type w (outputs es ∷ ss) = is_type w ss
is_type w (both es ∷ ss) = is_type w ss
is_type w (errors es ∷ ss) = is_type w ss
is_type w (values t es ∷ ss) = same w t.text || is_type w ss
is_type w (operations os ∷ ss) = is_type w ss
is_type w (operators e os ∷ ss) = is_type w ss

-- a word that is not in the class wanted: 5 where another class has it, 3 where none has
unfoldable pub elsewhere : {A : Type 0} → Program → Word → Checked A
elsewhere p w = wrong (if declared p w.text then 5 else 3) w

-- the value of a word in a class
unfoldable pub lookup : Program → List Known → Word → Checked ℕ
lookup p ks w = elim (find w.text ks) [ some v ↦ good v | none ↦ elsewhere p w ]

-- the members of a type: one that is declared later is 3 ("a type not yet declared")
unfoldable pub lookup_type : Program → List KnownType → Word → Checked (List Known)
lookup_type p ts w = elim (find_type w.text ts) [ some ks ↦ good ks | none ↦ if is_type w.text p.sections then wrong 3 w else elsewhere p w ]

unfoldable pub optional_type : Program → List KnownType → Option Word → Checked (Option (List Known))
optional_type p ts none = good none
optional_type p ts (some w) = do
  ks ← lookup_type p ts w
  good (some ks)

-- all of this file computes where this is unfolded
unfoldable pub opened : Unit {0}
unfolding find find_type find_operation find_operators find_rule is_word among_entries among_operations among_rules in_section in_sections declared is_type elsewhere lookup lookup_type optional_type
opened = tt
