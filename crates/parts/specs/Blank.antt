-- A program but for the places of its words: two texts with the same words, whatever stands between them, are the same so.
use Rattle.std.specs.Prelude.{List, [], ◌∷◌, ℕ}
use Rattle.std.proofs.Math.Option.{Option}
use Rattle.parts.specs.Moved.{move_word, move_words, move_if, move_constant, move_plain, move_selector, move_act, move_acts, move_alts, move_other, move_rule, move_rules}
use Rattle.syntax.specs.Written.{Constant, Plain, Selector, Act, Acts, Alts, Other, Entry, Operation, Operator, Section, inputs, outputs, both, errors, values, operations, operators, Rule, Program}
use Rattle.words.specs.Words.{Word}

-- every place is 0
abbrev pub nowhere : ℕ → ℕ
nowhere s = 0

abbrev pub blank : Word → Word
blank = move_word nowhere

abbrev pub blanks : List Word → List Word
blanks = move_words nowhere

abbrev pub blank_if : Option Word → Option Word
blank_if = move_if nowhere

abbrev pub blank_constant : Option Constant → Option Constant
blank_constant = move_constant nowhere

abbrev pub blank_plain : Plain → Plain
blank_plain = move_plain nowhere

abbrev pub blank_selector : Selector → Selector
blank_selector = move_selector nowhere

abbrev pub blank_act : Act → Act
blank_act = move_act nowhere

abbrev pub blank_acts : Acts → Acts
blank_acts = move_acts nowhere

abbrev pub blank_alts : Alts → Alts
blank_alts = move_alts nowhere

abbrev pub blank_other : Other → Other
blank_other = move_other nowhere

abbrev pub blank_rule : Rule → Rule
blank_rule = move_rule nowhere

abbrev pub blank_rules : List Rule → List Rule
blank_rules = move_rules nowhere

unfoldable pub blank_entry : Entry → Entry
blank_entry e = record { entry = blank e.entry; spelt = blank_if e.spelt; value = e.value }

unfoldable pub blank_entries : List Entry → List Entry
blank_entries [] = []
blank_entries (e ∷ es) = blank_entry e ∷ blank_entries es

unfoldable pub blank_operation : Operation → Operation
blank_operation o = record { operation = blank o.operation; takes = blank_if o.takes; gives = blank_if o.gives; instruction = o.instruction }

unfoldable pub blank_operations : List Operation → List Operation
blank_operations [] = []
blank_operations (o ∷ os) = blank_operation o ∷ blank_operations os

unfoldable pub blank_operator : Operator → Operator
blank_operator o = record { token = blank o.token; level = o.level; right = o.right; emits = blank o.emits }

unfoldable pub blank_operators : List Operator → List Operator
blank_operators [] = []
blank_operators (o ∷ os) = blank_operator o ∷ blank_operators os

unfoldable pub blank_section : Section → Section
blank_section (inputs es) = inputs (blank_entries es)
blank_section (outputs es) = outputs (blank_entries es)
blank_section (both es) = both (blank_entries es)
blank_section (errors es) = errors (blank_entries es)
blank_section (values w es) = values (blank w) (blank_entries es)
blank_section (operations os) = operations (blank_operations os)
blank_section (operators w os) = operators (blank w) (blank_operators os)

unfoldable pub blank_sections : List Section → List Section
blank_sections [] = []
blank_sections (s ∷ ss) = blank_section s ∷ blank_sections ss

unfoldable pub blank_program : Program → Program
blank_program p = record { sections = blank_sections p.sections; rules = blank_rules p.rules }

-- all of this file computes where this is unfolded
unfoldable pub opened : Unit {0}
unfolding blank_entry blank_entries blank_operation blank_operations blank_operator blank_operators blank_section blank_sections blank_program
opened = tt
