-- Declarations in text order. Fault 4: "declared twice, or a value repeated, at the entry's name". Operators sections are checked here too:
-- faults 3, 45 and 5 at their tokens.
use Rattle.std.specs.Prelude.{Bool, true, false, ◌||◌, ◌&&◌, not, List, [], ◌∷◌, ◌++◌, ℕ, suc, eqb}
use Rattle.std.proofs.Math.Option.{Option, none, some}
use Rattle.base.specs.Common.{member, given}
use Rattle.names.specs.Known.{Checked, good, ◌>>=◌, fault_if, Known, KnownType, KnownOperation, KnownOperators, KnownRule, Names, find, find_type, find_operation, find_operators, declared, lookup, optional_type}
use Rattle.program.specs.Made as made
use Rattle.program.specs.Made.{levels_of}
use Rattle.syntax.specs.Written.{Entry, Operation, Operator, Section, inputs, outputs, both, errors, values, operations, operators, Rule, Program}
use Rattle.words.specs.Words.{Word}

-- an entry's name and, "A string is a second name in its class", its string
unfoldable pub knowns : Entry → List Known
knowns e =
    record { named = e.entry.text; value = e.value }
    ∷ elim e.spelt [ none ↦ [] | some w ↦ record { named = w.text; value = e.value } ∷ [] ]

unfoldable pub values_of : List Known → List ℕ
values_of [] = []
values_of (k ∷ ks) = k.value ∷ values_of ks

unfoldable pub spelled : Option Word → List Known → Bool
spelled none ks = false
spelled (some w) ks = given (find w.text ks)

-- "Numbers may not repeat within a class. A name is declared once in its class"
unfoldable pub repeats : Entry → List Known → Bool
repeats e ks = given (find e.entry.text ks) || spelled e.spelt ks || member e.value (values_of ks)

-- "an operation may not bear an input token's name (4 at the later)": the operations that the entries may not be named after
unfoldable pub clashes : Entry → List KnownOperation → Bool
clashes e os = given (find_operation e.entry.text os)

-- the entries after what their class has; those that feed input are held against the operations too
unfoldable pub declare_all : List Entry → List Known → List KnownOperation → Checked (List Known)
declare_all [] have os = good have
declare_all (e ∷ es) have os = do
  _ ← fault_if (repeats e have || clashes e os) 4 e.entry
  declare_all es (have ++ knowns e) os

-- the same where they feed two classes: "twice in one of them is enough"
unfoldable pub declare_both : List Entry → List Known → List Known → List KnownOperation → Checked (List Known × List Known)
declare_both [] ins outs os = good (ins, outs)
declare_both (e ∷ es) ins outs os = do
  _ ← fault_if (repeats e ins || repeats e outs || clashes e os) 4 e.entry
  declare_both es (ins ++ knowns e) (outs ++ knowns e) os

abbrev pub with_operations : Names → List KnownOperation → Names
with_operations n os = record { inputs = n.inputs; outputs = n.outputs; errors = n.errors; types = n.types; operations = os; operators = n.operators }

-- "the types being declared earlier"
unfoldable pub declare_operations : Program → List Operation → Names → Checked Names
declare_operations p [] n = good n
declare_operations p (o ∷ os) n = do
  let w = o.operation
  _ ← fault_if (given (find_operation w.text n.operations) || given (find w.text n.inputs)) 4 w
  t ← optional_type p n.types o.takes
  g ← optional_type p n.types o.gives
  let own : KnownOperation = record { named = w.text; instruction = o.instruction; takes = t; gives = g }
  declare_operations p os (with_operations n (n.operations ++ (own ∷ [])))

-- Operators

unfoldable pub all_knowns : List Entry → List Known
all_knowns [] = []
all_knowns (e ∷ es) = knowns e ++ all_knowns es

-- the input tokens of the whole text: what is declared later is declared
unfoldable pub inputs_of : List Section → List Known
inputs_of [] = []
inputs_of (inputs es ∷ ss) = all_knowns es ++ inputs_of ss
inputs_of (outputs es ∷ ss) = inputs_of ss
inputs_of (both es ∷ ss) = all_knowns es ++ inputs_of ss
inputs_of (errors es ∷ ss) = inputs_of ss
inputs_of (values w es ∷ ss) = inputs_of ss
inputs_of (operations os ∷ ss) = inputs_of ss
inputs_of (operators w os ∷ ss) = inputs_of ss

unfoldable pub outputs_of : List Section → List Known
outputs_of [] = []
outputs_of (inputs es ∷ ss) = outputs_of ss
outputs_of (outputs es ∷ ss) = all_knowns es ++ outputs_of ss
outputs_of (both es ∷ ss) = all_knowns es ++ outputs_of ss
outputs_of (errors es ∷ ss) = outputs_of ss
outputs_of (values w es ∷ ss) = outputs_of ss
outputs_of (operations os ∷ ss) = outputs_of ss
outputs_of (operators w os ∷ ss) = outputs_of ss

abbrev pub differ : Bool → Bool → Bool
differ true true = false
differ true false = true
differ false true = true
differ false false = false

-- "45 for one level with both sides": an earlier operator of the level has the other side
unfoldable pub other_side : Operator → List made.Operator → Bool
other_side e [] = false
other_side e (o ∷ os) = (eqb e.level o.level && differ e.right o.right) || other_side e os

-- "or a token listed twice": by value, as a label is repeated
unfoldable pub listed : Option ℕ → List made.Operator → Bool
listed none os = false
listed (some v) [] = false
listed (some v) (o ∷ os) = eqb v o.token || listed (some v) os

-- an entry after the operators before it. 45 is "ranked just after 4", so at the token 3 is tested before it and 5 after it
unfoldable pub operator_of : Program → Operator → List made.Operator → Checked made.Operator
operator_of p e before = do
  _ ← fault_if (not (declared p e.token.text)) 3 e.token
  _ ← fault_if (other_side e before || listed (find e.token.text (inputs_of p.sections)) before) 45 e.token
  t ← lookup p (inputs_of p.sections) e.token
  o ← lookup p (outputs_of p.sections) e.emits
  good (record { token = t; level = e.level; right = e.right; emits = o })

unfoldable pub operators_of : Program → List Operator → List made.Operator → Checked (List made.Operator)
operators_of p [] before = good before
operators_of p (e ∷ es) before = do
  o ← operator_of p e before
  operators_of p es (before ++ (o ∷ []))

unfoldable pub declare_section : Program → Section → Names → Checked Names
declare_section p (inputs es) n = do
  ks ← declare_all es n.inputs n.operations
  good (record { inputs = ks; outputs = n.outputs; errors = n.errors; types = n.types; operations = n.operations; operators = n.operators })
declare_section p (outputs es) n = do
  ks ← declare_all es n.outputs []
  good (record { inputs = n.inputs; outputs = ks; errors = n.errors; types = n.types; operations = n.operations; operators = n.operators })
declare_section p (both es) n = do
  ks ← declare_both es n.inputs n.outputs n.operations
  good (record { inputs = ks.0; outputs = ks.1; errors = n.errors; types = n.types; operations = n.operations; operators = n.operators })
declare_section p (errors es) n = do
  ks ← declare_all es n.errors []
  good (record { inputs = n.inputs; outputs = n.outputs; errors = ks; types = n.types; operations = n.operations; operators = n.operators })
declare_section p (values w es) n = do
  _ ← fault_if (given (find_type w.text n.types)) 4 w
  ks ← declare_all es [] []
  let own : KnownType = record { named = w.text; members = ks }
  good (record { inputs = n.inputs; outputs = n.outputs; errors = n.errors; types = n.types ++ (own ∷ []); operations = n.operations; operators = n.operators })
declare_section p (operations os) n = declare_operations p os n
declare_section p (operators w es) n = do
  _ ← fault_if (given (find_operators w.text n.operators)) 4 w
  os ← operators_of p es []
  let own : KnownOperators = record { named = w.text; levels = levels_of os }
  good (record { inputs = n.inputs; outputs = n.outputs; errors = n.errors; types = n.types; operations = n.operations; operators = n.operators ++ (own ∷ []) })

unfoldable pub declare_sections : Program → List Section → Names → Checked Names
declare_sections p [] n = good n
declare_sections p (s ∷ ss) n = do
  m ← declare_section p s n
  declare_sections p ss m

-- the rules, all known before the first is resolved: "A rule may be called before it is declared"
unfoldable pub known_rules : ℕ → List Rule → List KnownRule
known_rules i [] = []
known_rules i (r ∷ rs) =
    record { named = r.rule.text; place = i; gives = elim r.gives [ none ↦ none | some w ↦ some w.text ] }
    ∷ known_rules (suc i) rs

-- all of this file computes where this is unfolded
unfoldable pub opened : Unit {0}
unfolding knowns values_of spelled repeats clashes declare_all declare_both declare_operations all_knowns inputs_of outputs_of other_side listed operator_of operators_of declare_section declare_sections known_rules
opened = tt
