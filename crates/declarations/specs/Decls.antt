-- A program's declarations in one row, in text order: what the processor keeps of the sections and of the rules' heads. The classes of crate
-- names are read off it.
use Rattle.std.specs.Prelude.{Bool, false, ◌&&◌, ◌||◌, not, List, [], ◌∷◌, ◌++◌, ◌≡◌, ℕ, suc, ◌+◌, eqb, length, get_or, if◌then◌else◌}
use Rattle.std.proofs.Math.Option.{Option, none, some}
use Rattle.base.specs.Common.{same, given, member}
use Rattle.grammar.specs.Derived.{OperatorsIn}
use Rattle.names.specs.Declare.{values_of, spelled, other_side, listed}
use Rattle.names.specs.Known.{Checked, good, wrong, ◌>>=◌, fault_if, Known, KnownOperation, KnownRule, Names, find, find_type, find_operation, find_operators, find_rule, is_word, declared, is_type}
use Rattle.program.specs.Made as made
use Rattle.program.specs.Made.{levels_of}
use Rattle.syntax.specs.Written.{Entry, Operation, Operator, Section, inputs, outputs, both, errors, values, operations, operators, Rule, Program}
use Rattle.words.specs.Words.{Word, words_at}

-- Classes: 1 an input token, 2 an output token, 3 both, 4 an error, 5 a type, 6 an operation, 7 a rule, 8 + i a value of the type that is
-- declaration i, 600 a section of operators: "a class of their own within the 512", so 8 + i is never 600.

-- a declaration: `second` is an entry's string or an operation's `(type)`, `third` an operation's or a rule's `>> type`; the value of an
-- operation is its instruction number, that of a rule its place among the rules, that of a section of operators the place of its first entry in
-- the text
pub record Decl : Type 0 where
  pub class : ℕ
  pub value : ℕ
  pub name : Word
  pub second : Option Word
  pub third : Option Word

abbrev pub of_entry : ℕ → Entry → Decl
of_entry c e = record { class = c; value = e.value; name = e.entry; second = e.spelt; third = none }

abbrev pub of_type : Word → Decl
of_type w = record { class = 5; value = 0; name = w; second = none; third = none }

abbrev pub of_operation : Operation → Decl
of_operation o = record { class = 6; value = o.instruction; name = o.operation; second = o.takes; third = o.gives }

abbrev pub of_rule : ℕ → Rule → Decl
of_rule i r = record { class = 7; value = i; name = r.rule; second = none; third = r.gives }

-- where the entries stand: the place of the first one's token
abbrev pub place_of : List Operator → ℕ
place_of [] = 0
place_of (e ∷ es) = e.token.start

abbrev pub of_operators : Word → List Operator → Decl
of_operators w es = record { class = 600; value = place_of es; name = w; second = none; third = none }

unfoldable pub entry_decls : ℕ → List Entry → List Decl
entry_decls c [] = []
entry_decls c (e ∷ es) = of_entry c e ∷ entry_decls c es

unfoldable pub operation_decls : List Operation → List Decl
operation_decls [] = []
operation_decls (o ∷ os) = of_operation o ∷ operation_decls os

-- the section's declarations, the first of them being declaration i
unfoldable pub section_decls : ℕ → Section → List Decl
section_decls i (inputs es) = entry_decls 1 es
section_decls i (outputs es) = entry_decls 2 es
section_decls i (both es) = entry_decls 3 es
section_decls i (errors es) = entry_decls 4 es
section_decls i (values w es) = of_type w ∷ entry_decls (8 + i) es
section_decls i (operations os) = operation_decls os
section_decls i (operators w es) = of_operators w es ∷ []

unfoldable pub sections_decls : ℕ → List Section → List Decl
sections_decls i [] = []
sections_decls i (s ∷ ss) = section_decls i s ++ sections_decls (i + length (section_decls i s)) ss

unfoldable pub rule_decls : ℕ → List Rule → List Decl
rule_decls i [] = []
rule_decls i (r ∷ rs) = of_rule i r ∷ rule_decls (suc i) rs

unfoldable pub decls_of : Program → List Decl
decls_of p = sections_decls 0 p.sections ++ rule_decls 0 p.rules

-- declaration i
unfoldable pub decl_of : List Decl → ℕ → Decl
decl_of ds i = get_or ds i (record { class = 0; value = 0; name = record { kind = 0; start = 0; text = [] }; second = none; third = none })

-- Entries of operators are in no row: they are read again from the text.

-- those of declaration i, where it is the section's, whose first is declaration j; else `later`
unfoldable pub entries_or : ℕ → Section → ℕ → List Operator → List Operator
entries_or j (inputs es) i later = later
entries_or j (outputs es) i later = later
entries_or j (both es) i later = later
entries_or j (errors es) i later = later
entries_or j (values w es) i later = later
entries_or j (operations os) i later = later
entries_or j (operators w es) i later = if eqb i j then es else later

unfoldable pub entries_from : ℕ → List Section → ℕ → List Operator
entries_from j [] i = []
entries_from j (s ∷ ss) i = entries_or j s i (entries_from (j + length (section_decls j s)) ss i)

-- the entries of the section of operators that is declaration i
unfoldable pub entries_of : Program → ℕ → List Operator
entries_of p i = entries_from 0 p.sections i

-- each section of operators of the row has its entries at its place in the text
pub record EntriesAt (text : List ℕ) (ds : List Decl) (entries : ℕ → List Operator) : Type 0 where
  pub behind : ℕ → List Word
  pub stand : (i : ℕ) → (decl_of ds i).class ≡ 600 → OperatorsIn (words_at text (decl_of ds i).value) (behind i) (entries i)

-- The classes

-- the declaration feeds the class c
unfoldable pub feeds : ℕ → Decl → Bool
feeds c d = eqb d.class c || (eqb d.class 3 && (eqb c 1 || eqb c 2))

-- its name and its string
unfoldable pub knowns_of : Decl → List Known
knowns_of d =
    record { named = d.name.text; value = d.value }
    ∷ elim d.second [ none ↦ [] | some w ↦ record { named = w.text; value = d.value } ∷ [] ]

-- a class of values: 1, 2, 4 or 8 and up
unfoldable pub knowns_in : ℕ → List Decl → List Known
knowns_in c [] = []
knowns_in c (d ∷ ds) = let later = knowns_in c ds in if feeds c d then knowns_of d ++ later else later

-- the first declaration of the class c that has the name w: its place in the row, the first being declaration i
unfoldable pub index_of : ℕ → List ℕ → ℕ → List Decl → Option ℕ
index_of c w i [] = none
index_of c w i (d ∷ ds) = let later = index_of c w (suc i) ds in if eqb d.class c && same w d.name.text then some i else later

-- a declaration of the name or string, in any class
unfoldable pub declared_in : List ℕ → List Decl → Bool
declared_in w [] = false
declared_in w (d ∷ ds) = same w d.name.text || (not (eqb d.class 6) && is_word w d.second) || declared_in w ds

-- the class of the values of the type of the name w: 0, which no declaration feeds, where there is no such type
abbrev pub type_class : Option ℕ → ℕ
type_class none = 0
type_class (some i) = 8 + i

unfoldable pub class_named : List Decl → List ℕ → ℕ
class_named ds w = type_class (index_of 5 w 0 ds)

-- the members of the type that an operation takes or gives, if it does
unfoldable pub members_of : List Decl → Option Word → Option (List Known)
members_of ds none = none
members_of ds (some w) = some (knowns_in (class_named ds w.text) ds)

abbrev pub operation_from : List Decl → Decl → KnownOperation
operation_from ds d = record { named = d.name.text; instruction = d.value; takes = members_of ds d.second; gives = members_of ds d.third }

abbrev pub rule_from : Decl → KnownRule
rule_from d = record { named = d.name.text; place = d.value; gives = elim d.third [ none ↦ none | some w ↦ some w.text ] }

-- the value of a word in a class, 0 where it has none
unfoldable pub value_in : List Decl → ℕ → Word → ℕ
value_in ds c w = elim (find w.text (knowns_in c ds)) [ some v ↦ v | none ↦ 0 ]

-- an entry of operators by the classes of input and output tokens of the whole row: what is declared later is declared
abbrev pub operator_from : List Decl → Operator → made.Operator
operator_from ds e = record { token = value_in ds 1 e.token; level = e.level; right = e.right; emits = value_in ds 2 e.emits }

unfoldable pub operators_from : List Decl → List Operator → List made.Operator
operators_from ds [] = []
operators_from ds (e ∷ es) = operator_from ds e ∷ operators_from ds es

-- f of a value that is there
abbrev pub mapped : {A B : Type 0} → (A → B) → Option A → Option B
mapped f none = none
mapped f (some a) = some (f a)

-- Faults of the declarations, by the row. `ds` are all, `before` those before the one at hand.

-- "Numbers may not repeat within a class. A name is declared once in its class"
unfoldable pub repeats_in : ℕ → Decl → List Decl → Bool
repeats_in c d before =
    given (find d.name.text (knowns_in c before)) || spelled d.second (knowns_in c before) || member d.value (values_of (knowns_in c before))

-- "an operation may not bear an input token's name"
unfoldable pub clashes_in : Decl → List Decl → Bool
clashes_in d before = given (index_of 6 d.name.text 0 before)

-- an entry's fault 4, by its class
unfoldable pub entry_again : Decl → List Decl → Bool
entry_again d before =
    if eqb d.class 1 then repeats_in 1 d before || clashes_in d before
    else if eqb d.class 3 then repeats_in 1 d before || repeats_in 2 d before || clashes_in d before
    else repeats_in d.class d before

-- a word that is not in the class wanted
unfoldable pub elsewhere_in : List Decl → List ℕ → ℕ
elsewhere_in ds w = if declared_in w ds then 5 else 3

-- the value of a word in a class
unfoldable pub lookup_in : List Decl → ℕ → Word → Checked ℕ
lookup_in ds c w = elim (find w.text (knowns_in c ds)) [ some v ↦ good v | none ↦ wrong (elsewhere_in ds w.text) w ]

-- a type that is among those before: its class; "a type not yet declared" is 3
unfoldable pub type_in : List Decl → List Decl → Word → Checked ℕ
type_in ds before w =
    elim (index_of 5 w.text 0 before) [
      | some i ↦ good (8 + i)
      | none ↦ if given (index_of 5 w.text 0 ds) then wrong 3 w else wrong (elsewhere_in ds w.text) w
    ]

-- the class of an optional type, 0 where there is none
unfoldable pub optional_in : List Decl → List Decl → Option Word → Checked ℕ
optional_in ds before none = good 0
optional_in ds before (some w) = type_in ds before w

unfoldable pub operation_fault : List Decl → List Decl → Decl → Checked (Unit {0})
operation_fault ds before d = do
  _ ← fault_if (given (index_of 6 d.name.text 0 before) || given (find d.name.text (knowns_in 1 before))) 4 d.name
  _ ← optional_in ds before d.second
  _ ← optional_in ds before d.third
  good tt

-- an entry of operators after those before it: "45 for one level with both sides or a token listed twice .. ranked just after 4", so after 3 and before 5
unfoldable pub operator_in : List Decl → Operator → List made.Operator → Checked made.Operator
operator_in ds e before = do
  _ ← fault_if (not (declared_in e.token.text ds)) 3 e.token
  _ ← fault_if (other_side e before || listed (find e.token.text (knowns_in 1 ds)) before) 45 e.token
  t ← lookup_in ds 1 e.token
  o ← lookup_in ds 2 e.emits
  good (record { token = t; level = e.level; right = e.right; emits = o })

unfoldable pub operators_in : List Decl → List Operator → List made.Operator → Checked (List made.Operator)
operators_in ds [] before = good before
operators_in ds (e ∷ es) before = do
  o ← operator_in ds e before
  operators_in ds es (before ++ (o ∷ []))

-- a section of operators with these entries: its name twice is 4 at the name
unfoldable pub operators_fault : List Decl → List Decl → List Operator → Decl → Checked (Unit {0})
operators_fault ds before es d = do
  _ ← fault_if (given (index_of 600 d.name.text 0 before)) 4 d.name
  _ ← operators_in ds es []
  good tt

-- the fault of one declaration, `es` being its entries where it is a section of operators; a rule's are found with its actions
unfoldable pub decl_fault : List Decl → List Decl → List Operator → Decl → Checked (Unit {0})
decl_fault ds before es d =
    if eqb d.class 5 then fault_if (given (index_of 5 d.name.text 0 before)) 4 d.name
    else if eqb d.class 6 then operation_fault ds before d
    else if eqb d.class 7 then good tt
    else if eqb d.class 600 then operators_fault ds before es d
    else fault_if (entry_again d before) 4 d.name

-- the first fault of the declarations `rest` after `before`; `entries i` are those of declaration i
unfoldable pub decl_faults : List Decl → (ℕ → List Operator) → List Decl → List Decl → Checked (Unit {0})
decl_faults ds entries before [] = good tt
decl_faults ds entries before (d ∷ rest) = do
  _ ← decl_fault ds before (entries (length before)) d
  decl_faults ds entries (before ++ (d ∷ [])) rest

-- a program's names, as its declarations have them
pub record Agrees (p : Program) (n : Names) (rs : List KnownRule) (ds : List Decl) : Type 0 where
  pub inputs : n.inputs ≡ knowns_in 1 ds
  pub outputs : n.outputs ≡ knowns_in 2 ds
  pub errors : n.errors ≡ knowns_in 4 ds
  pub types : (w : List ℕ) → find_type w n.types ≡ mapped (λ i. knowns_in (8 + i) ds) (index_of 5 w 0 ds)
  pub operations : (w : List ℕ) → find_operation w n.operations ≡ mapped (λ i. operation_from ds (decl_of ds i)) (index_of 6 w 0 ds)
  pub operators : (w : List ℕ) → find_operators w n.operators ≡ mapped (λ i. levels_of (operators_from ds (entries_of p i))) (index_of 600 w 0 ds)
  -- the entries of a section that is found have no fault
  pub ranked : (w : List ℕ) (i : ℕ) → index_of 600 w 0 ds ≡ some i → operators_in ds (entries_of p i) [] ≡ good (operators_from ds (entries_of p i))
  pub rules : (w : List ℕ) → find_rule w rs ≡ mapped (λ i. rule_from (decl_of ds i)) (index_of 7 w 0 ds)
  pub declared : (w : List ℕ) → declared p w ≡ declared_in w ds
  pub is_type : (w : List ℕ) → is_type w p.sections ≡ given (index_of 5 w 0 ds)
  -- no declaration feeds class 0
  pub nowhere : knowns_in 0 ds ≡ []

-- all of this file computes where this is unfolded
unfoldable pub opened : Unit {0}
unfolding entry_decls operation_decls section_decls sections_decls rule_decls decls_of decl_of entries_or entries_from entries_of feeds knowns_of knowns_in index_of declared_in class_named members_of value_in operators_from repeats_in clashes_in entry_again elsewhere_in lookup_in type_in optional_in operation_fault operator_in operators_in operators_fault decl_fault decl_faults
opened = tt
