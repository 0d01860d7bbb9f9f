-- A program as numbers: what the author's words mean, with no word left in it. A rule is its place in the text, from 0; an operation
-- its instruction number; a token, an error, a label and a constant its value.
use Rattle.std.specs.Prelude.{Bool, false, List, ℕ, get_or}
use Rattle.base.specs.Tree.{Action, Actions, Alternatives, Otherwise, done}

-- "Actions: match a token; `?`; `.token`; `#error`; .. `>` out of the nearest cycle; .. `@rule`; `>>`; an update operation"
pub data Plain : Type 0 where
  match : ℕ → Plain
  any : Plain
  emit error : ℕ → Plain
  exit : Plain
  call : ℕ → Plain
  back : Plain  -- `>>` in a procedure rule
  give : ℕ → Plain  -- `>>` with its value, in a choice rule
  update : ℕ → Plain
  update_with : ℕ → ℕ → Plain  -- an operation and its parameter

-- "A choice has a selector (none, `@choice rule`, or a choice operation with its constant if it has a parameter)"
pub data Selector : Type 0 where
  by_token : Selector
  by_rule by_operation : ℕ → Selector
  by_operation_with : ℕ → ℕ → Selector

abbrev pub Act : Type 0
Act = Action Plain Selector ℕ

abbrev pub Acts : Type 0
Acts = Actions Plain Selector ℕ

abbrev pub Alts : Type 0
Alts = Alternatives Plain Selector ℕ

abbrev pub Other : Type 0
Other = Otherwise Plain Selector ℕ

-- "A rule is a name, an optional `>> type` (a choice rule), a colon, actions (perhaps none), a semicolon"
pub record Rule : Type 0 where
  pub valued : Bool  -- a choice rule
  pub body : Acts

-- the rule at a place of the text; past the last, a procedure rule with no actions
unfoldable pub rule_of : List Rule → ℕ → Rule
rule_of prog r = get_or prog r (record { valued = false; body = done })

unfoldable pub body_of : List Rule → ℕ → Acts
body_of prog r = (rule_of prog r).body

-- all of this file computes where this is unfolded
unfoldable pub opened : Unit {0}
unfolding rule_of body_of
opened = tt
