-- What was read from where: the words that a tree was read from, and those left. A text that passes the syntax pass has such a
-- derivation (proofs), and the later passes read it again by it. Kinds are crate words': a symbol's kind is its byte, `>>` is 256, a name 257,
-- a number 258, a string 259, the heads 260 to 264, `rules` 265, `end` 266.
use Rattle.std.specs.Prelude.{Bool, true, false, List, [], ◌∷◌, ◌≡◌, ℕ, ◌+◌, ◌-◌, ◌≤◌, max, length}
use Rattle.std.proofs.Math.Option.{Option, none, some}
use Prim.Native.Char.{code}
use Rattle.base.specs.Common.{bytes, given}
use Rattle.base.specs.Tree.{plain, cycle, choice, done, ◌▸◌, nil, alternative, absent, otherwise}
use Rattle.syntax.specs.Actions.{closes}
use Rattle.syntax.specs.Reading.{peek}
use Rattle.syntax.specs.Sections.{Sofar, nothing, after, first_of, of_kind}
unfoldable pub use Rattle.syntax.specs.Sections.{names_in, names_in_all}
use Rattle.syntax.specs.Written.{Constant, Plain, named, any, exit, emit, error, call, give, ranked, Selector, by_token, by_rule, by_operation, Act, Acts, Alts, Other, Entry, Operation, Operator, Section, inputs, outputs, both, errors, values, operations, operators, Rule, Program}
use Rattle.words.specs.Words as K
use Rattle.words.specs.Words.{Word, value}

-- the next word is w, of the kind k, and ws' are those behind it
pub record Took (k : ℕ) (ws : List Word) (w : Word) (ws' : List Word) : Type 0 where
  pub here : ws ≡ w ∷ ws'
  pub kind : w.kind ≡ k

-- the next word is not of the kind k
abbrev pub Not : ℕ → List Word → Type 0
Not k ws = (peek ws).kind ≡ k → ⊥

-- the next word is a name or a string
pub data Reference (ws : List Word) (w : Word) (ws' : List Word) : Type 0 where
  by_name : Took K.name ws w ws' → Reference ws w ws'
  by_string : Took K.string ws w ws' → Reference ws w ws'

-- Plain actions and selectors

pub data ConstantIn (ws ws' : List Word) : Option Constant → Type 0 where
  no_constant : Not (code "(") ws → ws' ≡ ws → ConstantIn ws ws' none
  one_constant : {paren c close : Word} {ws₁ ws₂ : List Word} → Took (code "(") ws paren ws₁ → Reference ws₁ c ws₂ → Took (code ")") ws₂ close ws'
      → ConstantIn ws ws' (some (record { paren = paren; constant = c }))

pub data ValueIn (ws ws' : List Word) : Option Word → Type 0 where
  no_value : Not K.name ws → Not K.string ws → ws' ≡ ws → ValueIn ws ws' none
  one_value : {w : Word} → Reference ws w ws' → ValueIn ws ws' (some w)

pub data PlainIn (ws ws' : List Word) : Plain → Type 0 where
  named_in : {w : Word} {c : Option Constant} {ws₁ : List Word} → Reference ws w ws₁ → ConstantIn ws₁ ws' c → PlainIn ws ws' (named w c)
  any_in : {w : Word} → Took (code "?") ws w ws' → PlainIn ws ws' (any w)
  emit_in : {dot w : Word} {ws₁ : List Word} → Took (code ".") ws dot ws₁ → Reference ws₁ w ws' → PlainIn ws ws' (emit w)
  error_in : {hash w : Word} {ws₁ : List Word} → Took (code "#") ws hash ws₁ → Reference ws₁ w ws' → PlainIn ws ws' (error w)
  exit_in : {w : Word} → Took (code ">") ws w ws' → PlainIn ws ws' (exit w)
  call_in : {at w : Word} {ws₁ : List Word} → Took (code "@") ws at ws₁ → Took K.name ws₁ w ws' → PlainIn ws ws' (call w)
  give_in : {w : Word} {v : Option Word} {ws₁ : List Word} → Took K.twice ws w ws₁ → ValueIn ws₁ ws' v → PlainIn ws ws' (give w v)
  ranked_in : {s w at o : Word} {ws₁ ws₂ ws₃ : List Word} → Took (code "^") ws s ws₁ → Took K.name ws₁ w ws₂ → Took (code "@") ws₂ at ws₃ → Took K.name ws₃ o ws' → PlainIn ws ws' (ranked s w o)

pub data SelectorIn (ws ws' : List Word) : Selector → Type 0 where
  token_in : Not (code "@") ws → Not K.name ws → ws' ≡ ws → SelectorIn ws ws' by_token
  rule_inside : {at w : Word} {ws₁ : List Word} → Took (code "@") ws at ws₁ → Took K.name ws₁ w ws' → SelectorIn ws ws' (by_rule w)
  operation_inside : {w : Word} {c : Option Constant} {ws₁ : List Word} → Took K.name ws w ws₁ → ConstantIn ws₁ ws' c → SelectorIn ws ws' (by_operation w c)

-- labels: a label that no comma follows is the last
pub data LabelsIn : List Word → List Word → List Word → Type 0 where
  last_label : {ws ws' : List Word} {w : Word} → Reference ws w ws' → Not (code ",") ws' → LabelsIn ws ws' (w ∷ [])
  more_labels : {ws ws' ws₁ ws₂ ls : List Word} {w comma : Word} → Reference ws w ws₁ → Took (code ",") ws₁ comma ws₂ → LabelsIn ws₂ ws' ls → LabelsIn ws ws' (w ∷ ls)

-- Actions

mutual
  pub data ActIn : List Word → List Word → Act → Type 0 where
    plain_in : {ws ws' : List Word} {a : Plain} → PlainIn ws ws' a → ActIn ws ws' (plain a)
    cycle_in : {ws ws' ws₁ ws₂ : List Word} {opening close : Word} {b : Acts} → Took (code "{") ws opening ws₁ → ActsIn ws₁ ws₂ b → Took (code "}") ws₂ close ws' → ActIn ws ws' (cycle b)
    choice_in : {ws ws' ws₁ ws₂ ws₃ : List Word} {opening bar : Word} {s : Selector} {q : Alts} {o : Other}
        → Took (code "[") ws opening ws₁ → SelectorIn ws₁ ws₂ s → Took (code "|") ws₂ bar ws₃ → AltsIn ws₃ ws' 64 q o → ActIn ws ws' (choice s q o)

  -- up to a word that closes them
  pub data ActsIn : List Word → List Word → Acts → Type 0 where
    none_in : {ws ws' : List Word} → closes (peek ws).kind ≡ true → ws' ≡ ws → ActsIn ws ws' done
    more_in : {ws ws' ws₁ : List Word} {a : Act} {q : Acts} → closes (peek ws).kind ≡ false → ActIn ws ws₁ a → ActsIn ws₁ ws' q → ActsIn ws ws' (a ▸ q)

  -- the alternatives of a choice after a `|`, to its `]`, where `room` more labels may stand
  pub data AltsIn : List Word → List Word → ℕ → Alts → Other → Type 0 where
    other_in : {ws ws' ws₁ ws₂ ws₃ : List Word} {room : ℕ} {star colon close : Word} {b : Acts}
        → Took (code "*") ws star ws₁ → Took (code ":") ws₁ colon ws₂ → ActsIn ws₂ ws₃ b → Took (code "]") ws₃ close ws' → AltsIn ws ws' room nil (otherwise b)
    last_in : {ws ws' ws₁ ws₂ ws₃ ls : List Word} {room : ℕ} {colon close : Word} {b : Acts}
        → LabelsIn ws ws₁ ls → length ls ≤ room → Took (code ":") ws₁ colon ws₂ → ActsIn ws₂ ws₃ b → Took (code "]") ws₃ close ws' → AltsIn ws ws' room (alternative ls b nil) absent
    next_in : {ws ws' ws₁ ws₂ ws₃ ws₄ ls : List Word} {room : ℕ} {colon bar : Word} {b : Acts} {q : Alts} {o : Other}
        → LabelsIn ws ws₁ ls → length ls ≤ room → Took (code ":") ws₁ colon ws₂ → ActsIn ws₂ ws₃ b → Took (code "|") ws₃ bar ws₄ → AltsIn ws₄ ws' (room - length ls) q o
        → AltsIn ws ws' room (alternative ls b q) o

-- Sections

pub data SpellingIn (strings : Bool) (ws ws' : List Word) : Option Word → Type 0 where
  no_strings : strings ≡ false → ws' ≡ ws → SpellingIn strings ws ws' none
  no_spelling : strings ≡ true → Not K.string ws → ws' ≡ ws → SpellingIn strings ws ws' none
  one_spelling : {w : Word} → strings ≡ true → Took K.string ws w ws' → SpellingIn strings ws ws' (some w)

-- the value: set by a number, or counted
pub data CountIn (v : ℕ) (ws ws' : List Word) : ℕ → Type 0 where
  a_numeral : {sign digits : Word} {ws₁ : List Word} {n : ℕ} → Took (code "=") ws sign ws₁ → Took K.number ws₁ digits ws' → n ≡ value 0 digits.text → n ≤ 65535 → CountIn v ws ws' n
  counted : {n : ℕ} → Not (code "=") ws → ws' ≡ ws → n ≡ v → n ≤ 65535 → CountIn v ws ws' n

pub data EntryIn (strings : Bool) (v : ℕ) (ws ws' : List Word) (e : Entry) : Type 0 where
  one_entry : {ws₁ ws₂ : List Word} → Took K.name ws e.entry ws₁ → SpellingIn strings ws₁ ws₂ e.spelt → CountIn v ws₂ ws' e.value → EntryIn strings v ws ws' e

pub data EntriesIn (strings : Bool) : ℕ → List Word → List Word → List Entry → Type 0 where
  last_entry : {v : ℕ} {ws ws' ws₁ : List Word} {e : Entry} {semi : Word} → EntryIn strings v ws ws₁ e → Took (code ";") ws₁ semi ws' → EntriesIn strings v ws ws' (e ∷ [])
  more_entries : {v : ℕ} {ws ws' ws₁ : List Word} {e : Entry} {es : List Entry} → EntryIn strings v ws ws₁ e → Not (code ";") ws₁ → EntriesIn strings (e.value + 1) ws₁ ws' es
      → EntriesIn strings v ws ws' (e ∷ es)

-- `>> type`, where it is there
pub data GivesIn (ws ws' : List Word) : Option Word → Type 0 where
  gives_none : Not K.twice ws → ws' ≡ ws → GivesIn ws ws' none
  gives_some : {sign w : Word} {ws₁ : List Word} → Took K.twice ws sign ws₁ → Took K.name ws₁ w ws' → GivesIn ws ws' (some w)

-- `(type)`, where it is there
pub data TakesIn (ws ws' : List Word) : Option Word → Type 0 where
  takes_none : Not (code "(") ws → ws' ≡ ws → TakesIn ws ws' none
  takes_some : {opening w close : Word} {ws₁ ws₂ : List Word} → Took (code "(") ws opening ws₁ → Took K.name ws₁ w ws₂ → Took (code ")") ws₂ close ws' → TakesIn ws ws' (some w)

-- the first number of the operation's kind
abbrev pub kind_of : Operation → ℕ
kind_of o = first_of (given o.takes) (given o.gives)

pub data OperationIn (seen : List ℕ) (ws ws' : List Word) (o : Operation) : Type 0 where
  one_operation : {ws₁ ws₂ : List Word} → Took K.name ws o.operation ws₁ → TakesIn ws₁ ws₂ o.takes → GivesIn ws₂ ws' o.gives
      → o.instruction ≡ kind_of o + of_kind (kind_of o) seen → of_kind (kind_of o) seen ≤ 255 → OperationIn seen ws ws' o

pub data OperationsIn : List ℕ → List Word → List Word → List Operation → Type 0 where
  last_operation : {seen : List ℕ} {ws ws' ws₁ : List Word} {o : Operation} {semi : Word} → OperationIn seen ws ws₁ o → Took (code ";") ws₁ semi ws' → OperationsIn seen ws ws' (o ∷ [])
  more_operations : {seen : List ℕ} {ws ws' ws₁ : List Word} {o : Operation} {os : List Operation} → OperationIn seen ws ws₁ o → Not (code ";") ws₁ → OperationsIn (o.instruction ∷ seen) ws₁ ws' os
      → OperationsIn seen ws ws' (o ∷ os)

-- `left` or `right`
pub data SideIn (ws ws' : List Word) : Bool → Type 0 where
  left_in : {w : Word} → Took K.name ws w ws' → w.text ≡ bytes "left" → SideIn ws ws' false
  right_in : {w : Word} → Took K.name ws w ws' → w.text ≡ bytes "right" → SideIn ws ws' true

pub data OperatorIn (ws ws' : List Word) (o : Operator) : Type 0 where
  one_operator : {digits : Word} {ws₁ ws₂ ws₃ : List Word} → Reference ws o.token ws₁ → Took K.number ws₁ digits ws₂ → o.level ≡ value 0 digits.text → 1 ≤ o.level → o.level ≤ 15
      → SideIn ws₂ ws₃ o.right → Reference ws₃ o.emits ws' → OperatorIn ws ws' o

pub data OperatorsIn : List Word → List Word → List Operator → Type 0 where
  last_operator : {ws ws' ws₁ : List Word} {o : Operator} {semi : Word} → OperatorIn ws ws₁ o → Took (code ";") ws₁ semi ws' → OperatorsIn ws ws' (o ∷ [])
  more_operators : {ws ws' ws₁ : List Word} {o : Operator} {os : List Operator} → OperatorIn ws ws₁ o → Not (code ";") ws₁ → OperatorsIn ws₁ ws' os → OperatorsIn ws ws' (o ∷ os)

-- a colon and entries
pub data ListedIn (strings : Bool) (v : ℕ) (ws ws' : List Word) (es : List Entry) : Type 0 where
  listed_in : {colon : Word} {ws₁ : List Word} → Took (code ":") ws colon ws₁ → EntriesIn strings v ws₁ ws' es → ListedIn strings v ws ws' es

pub data SectionIn (s : Sofar) (ws ws' : List Word) : Section → Type 0 where
  inputs_in : {head : Word} {ws₁ : List Word} {es : List Entry} → Took K.input ws head ws₁ → Not K.output ws₁ → ListedIn true s.input ws₁ ws' es → SectionIn s ws ws' (inputs es)
  both_in : {head second : Word} {ws₁ ws₂ : List Word} {es : List Entry} → Took K.input ws head ws₁ → Took K.output ws₁ second ws₂ → ListedIn true (max s.input s.output) ws₂ ws' es
      → SectionIn s ws ws' (both es)
  outputs_in : {head : Word} {ws₁ : List Word} {es : List Entry} → Took K.output ws head ws₁ → ListedIn true s.output ws₁ ws' es → SectionIn s ws ws' (outputs es)
  errors_in : {head : Word} {ws₁ : List Word} {es : List Entry} → Took K.error ws head ws₁ → ListedIn false s.error ws₁ ws' es → SectionIn s ws ws' (errors es)
  values_in : {head w : Word} {ws₁ ws₂ : List Word} {es : List Entry} → Took K.type ws head ws₁ → Took K.name ws₁ w ws₂ → ListedIn false 0 ws₂ ws' es → SectionIn s ws ws' (values w es)
  operations_in : {head w colon : Word} {ws₁ ws₂ ws₃ : List Word} {os : List Operation} → Took K.mechanism ws head ws₁ → Took K.name ws₁ w ws₂ → Took (code ":") ws₂ colon ws₃
      → OperationsIn s.seen ws₃ ws' os → SectionIn s ws ws' (operations os)
  operators_in : {head w colon : Word} {ws₁ ws₂ ws₃ : List Word} {os : List Operator} → Took K.name ws head ws₁ → head.text ≡ bytes "operators" → Took K.name ws₁ w ws₂ → Took (code ":") ws₂ colon ws₃
      → OperatorsIn ws₃ ws' os → SectionIn s ws ws' (operators w os)

-- up to the word `rules`
pub data SectionsIn : Sofar → List Word → List Word → List Section → Type 0 where
  no_section : {s : Sofar} {ws ws' : List Word} → (peek ws).kind ≡ 265 → ws' ≡ ws → SectionsIn s ws ws' []
  more_sections : {s : Sofar} {ws ws' ws₁ : List Word} {x : Section} {xs : List Section} → Not K.rules ws → SectionIn s ws ws₁ x → SectionsIn (after s x) ws₁ ws' xs → SectionsIn s ws ws' (x ∷ xs)

-- Rules

pub data RuleIn (ws ws' : List Word) (r : Rule) : Type 0 where
  one_rule : {colon : Word} {ws₁ ws₂ ws₃ ws₄ : List Word}
      → Took K.name ws r.rule ws₁ → GivesIn ws₁ ws₂ r.gives → Took (code ":") ws₂ colon ws₃ → ActsIn ws₃ ws₄ r.body → Took (code ";") ws₄ r.closing ws' → RuleIn ws ws' r

pub data RulesIn : List Word → List Word → List Rule → Type 0 where
  last_rule : {ws ws' : List Word} {r : Rule} → RuleIn ws ws' r → Not K.name ws' → RulesIn ws ws' (r ∷ [])
  more_rules : {ws ws' ws₁ : List Word} {r : Rule} {rs : List Rule} → RuleIn ws ws₁ r → (peek ws₁).kind ≡ 257 → RulesIn ws₁ ws' rs → RulesIn ws ws' (r ∷ rs)

-- The program

pub data ProgramIn (ws : List Word) (p : Program) : Type 0 where
  a_program : {head : Word} {ws₁ ws₂ ws₃ : List Word}
      → SectionsIn nothing ws ws₁ p.sections → Took K.rules ws₁ head ws₂ → RulesIn ws₂ ws₃ p.rules → (peek ws₃).kind ≡ 266
      → length p.rules ≤ 128 → names_in_all p.sections + length p.rules ≤ 512 → ProgramIn ws p

-- all of this file computes where this is unfolded
unfoldable pub opened : Unit {0}
unfolding names_in names_in_all
opened = tt
