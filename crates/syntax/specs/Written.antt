-- A program as its author wrote it: the tree with its words. A value and an instruction number are counted as the text is read.
use Rattle.std.specs.Prelude.{Bool, List, ℕ}
use Rattle.std.proofs.Math.Option.{Option}
use Rattle.base.specs.Tree.{Action, Actions, Alternatives, Otherwise}
use Rattle.words.specs.Words.{Word}

-- the constant after an operation: its `(` and the word in it
pub record Constant : Type 0 where
  pub paren : Word
  pub constant : Word

-- a plain action: a token or an update operation, with its constant; `?`, `>`; the word after `.`, `#`, `@`; `>>` and its value;
-- `^`, its section and its operand rule
pub data Plain : Type 0 where
  named : Word → Option Constant → Plain
  any exit : Word → Plain
  emit error call : Word → Plain
  give : Word → Option Word → Plain
  ranked : Word → Word → Word → Plain

-- what a choice goes by: the present token, a rule, an operation with its constant
pub data Selector : Type 0 where
  by_token : Selector
  by_rule : Word → Selector
  by_operation : Word → Option Constant → Selector

abbrev pub Act : Type 0
Act = Action Plain Selector Word

abbrev pub Acts : Type 0
Acts = Actions Plain Selector Word

abbrev pub Alts : Type 0
Alts = Alternatives Plain Selector Word

abbrev pub Other : Type 0
Other = Otherwise Plain Selector Word

-- what stands between `[`, after its selector, and `]`
pub record Choices : Type 0 where
  pub labelled : Alts
  pub default : Other

-- "A token entry is a name, an optional string, an optional `= number`; error and type entries have no string."
pub record Entry : Type 0 where
  pub entry : Word
  pub spelt : Option Word
  pub value : ℕ

-- "An operation entry is a name, an optional `(type)`, an optional `>> type`."
pub record Operation : Type 0 where
  pub operation : Word
  pub takes : Option Word
  pub gives : Option Word
  pub instruction : ℕ

-- "lists input token, level 1 to 15, `left` or `right`, and output token"
pub record Operator : Type 0 where
  pub token : Word
  pub level : ℕ
  pub right : Bool
  pub emits : Word

-- "Heads: `input`, `output`, `input output`, `error`, `type NAME`, `mechanism NAME`."; and "`operators NAME:`"
pub data Section : Type 0 where
  inputs outputs both errors : List Entry → Section
  values : Word → List Entry → Section
  operations : List Operation → Section
  operators : Word → List Operator → Section

-- "A rule is a name, an optional `>> type` (a choice rule), a colon, actions (perhaps none), a semicolon."
pub record Rule : Type 0 where
  pub rule : Word
  pub gives : Option Word
  pub body : Acts
  pub closing : Word

pub record Program : Type 0 where
  pub sections : List Section
  pub rules : List Rule
