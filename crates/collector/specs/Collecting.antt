-- What the functions of the second pass promise, for every tree that the text was read as. `rows` are the rows before, `rows'` those after;
-- `count` rows are in use before.
use Rattle.std.specs.Prelude.{Option as Maybe, is_some, unwrap_or, Bool, true, false, List, [], ◌∷◌, ◌++◌, ◌≡◌, ℕ, ◌+◌, ◌*◌, ◌≤◌, ◌<◌, max, eqb, length, set, if◌then◌else◌}
use Rattle.std.proofs.Math.Option.{Option, some}
use Rattle.base.specs.Common.{given}
use Rattle.base.specs.Tree.{done}
use Rattle.collector.specs.declared.Collected.{Collected}
use Rattle.collector.specs.declared.Entered.{Entered}
use Rattle.collector.specs.declared.Entries.{Entries}
use Rattle.collector.specs.declared.Head.{Head}
use Rattle.collector.specs.declared.Listed.{Listed}
use Rattle.collector.specs.declared.Listed.TheVariants.{Inputs, Outputs, Both, Errors}
use Rattle.collector.specs.declared.Operated.{Operated}
use Rattle.collector.specs.declared.Part.{Part}
use Rattle.collector.specs.declared.Row.{Row}
use Rattle.collector.specs.declared.Sectioned.{Sectioned}
use Rattle.collector.specs.declared.Spot.{Spot}
use Rattle.collector.specs.declared.State.{State}
use Rattle.collector.specs.declared.Valued.{Valued}
use Rattle.declarations.specs.Decls.{Decl, of_entry, of_operation, of_rule, entry_decls, operation_decls, section_decls, sections_decls, rule_decls, decls_of, place_of, entries_of, EntriesAt}
use Rattle.grammar.specs.Derived.{Took, Not, CountIn, EntryIn, GivesIn, ListedIn, OperationIn, OperationsIn, OperatorsIn, RulesIn, SectionsIn, ProgramIn, names_in, names_in_all}
use Rattle.reader.specs.Counting.{Kinds, Adds}
use Rattle.reader.specs.declared.Seen.{Seen}
use Rattle.scanner.specs.declared.WordAt.{WordAt}
use Rattle.symbols.specs.Rows.{word_of, option_of, second_kind, held}
use Rattle.syntax.specs.Reading.{peek}
use Rattle.syntax.specs.Sections.{Sofar, nothing, after, next_of, instructions}
use Rattle.syntax.specs.Written.{Entry, Operation, Operator, Section, inputs, outputs, both, errors, values, operations, operators, Rule, Program}
use Rattle.words.specs.Words.{Word, words_at}

-- Rows

abbrev pub in_text : List ℕ → Part → Type 0
in_text text p = p.start + p.len ≤ length text

-- the part of a word
abbrev pub part_of : WordAt → Part
part_of w = record { start = w.start; len = w.len }

-- what the rows say of a part that may be there
abbrev pub written : Maybe Part → Part
written o = unwrap_or o (record { start = 0; len = 0 })

-- a word that may be there
abbrev pub option_in : List ℕ → ℕ → Maybe Part → Option Word
option_in text kind o = option_of text kind (written o).start (written o).len

-- the declaration of a row
unfoldable pub decl_in : List ℕ → Row → Decl
decl_in text d = record {
  class = d.class;
  value = d.value;
  name = word_of text 257 d.name.start d.name.len;
  second = option_in text (second_kind d.class) d.second;
  third = option_in text 257 d.third;
}

-- a row's numbers are of 16 bits
pub record Small (d : Row) : Type 0 where
  pub class : d.class ≤ 65535
  pub value : d.value ≤ 65535
  pub name : d.name.start + d.name.len ≤ 65535
  pub second : (written d.second).start + (written d.second).len ≤ 65535
  pub third : (written d.third).start + (written d.third).len ≤ 65535

abbrev pub set_two : List ℕ → ℕ → ℕ → ℕ → List ℕ
set_two rows k a b = set (set rows k a) (k + 1) b

-- the words of the row that begins at k
abbrev pub set_words : List ℕ → ℕ → Row → List ℕ
set_words rows k d =
    set_two
    (set_two
    (set_two rows (k + 2) d.name.start d.name.len)
    (k + 4) (written d.second).start (written d.second).len)
    (k + 6) (written d.third).start (written d.third).len

-- row i is written
unfoldable pub set_row : List ℕ → ℕ → Row → List ℕ
set_row rows i d = set_words (set_two rows (8 * i) d.class d.value) (8 * i) d

-- n more rows have their place
pub record Room (rows : List ℕ) (count n : ℕ) : Type 0 where
  pub size : length rows ≡ 6017
  pub room : count + n ≤ 512

-- the declarations ds were appended
pub record Appends (text rows rows' : List ℕ) (count count' : ℕ) (ds : List Decl) : Type 0 where
  pub counted : count' ≡ count + length ds
  pub filled : held text rows' count' ≡ held text rows count ++ ds

-- the row d was appended, if it had its place
pub record Puts (rows rows' : List ℕ) (count count' : ℕ) (d : Row) : Type 0 where
  pub more : count ≤ count'
  pub small : count' ≤ 512
  pub puts : (text : List ℕ) → Room rows count 1 → Appends text rows rows' count count' (decl_in text d ∷ [])

-- where a function leaves off, whatever the text
pub record Bounds (text : List ℕ) (at to count count' : ℕ) : Type 0 where
  pub low : at ≤ to
  pub high : to ≤ length text
  pub more : count ≤ count'
  pub small : count' ≤ 512

-- something was read, and ws' are the words behind it
pub record Goes (text : List ℕ) (at to : ℕ) (ws' : List Word) : Type 0 where
  pub past : at < to
  pub rest : ws' ≡ words_at text to

-- Parts of entries and of operations

-- a word that may be there was read, r.1 is the place behind it: F are the families of crate grammar for such words
pub record Reads (F : List Word → Option Word → Type 0) (text : List ℕ) (at kind : ℕ) (r : Maybe Part × ℕ) : Type 0 where
  pub low : at ≤ r.1
  pub high : r.1 ≤ length text
  pub inside : in_text text (written r.0)
  pub there : (ws' : List Word) (o : Option Word) → F ws' o → given o ≡ is_some r.0
  pub word : (ws' : List Word) (o : Option Word) → F ws' o → o ≡ option_in text kind r.0
  pub rest : (ws' : List Word) (o : Option Word) → F ws' o → ws' ≡ words_at text r.1

-- a value that is set or counted
pub record Counts (text : List ℕ) (at v : ℕ) (r : Valued) : Type 0 where
  pub low : at ≤ r.at
  pub high : r.at ≤ length text
  pub small : r.value ≤ 65535
  pub value : (ws' : List Word) (n : ℕ) → CountIn v (words_at text at) ws' n → n ≡ r.value
  pub rest : (ws' : List Word) (n : ℕ) → CountIn v (words_at text at) ws' n → ws' ≡ words_at text r.at

-- an operation's name and types
pub record HeadRead (text : List ℕ) (at : ℕ) (ws' : List Word) (o : Operation) (r : Head) : Type 0 where
  pub past : at < r.at
  pub rest : ws' ≡ words_at text r.at
  pub name : o.operation ≡ word_of text 257 r.name.start r.name.len
  pub taking : given o.takes ≡ is_some r.second
  pub takes : o.takes ≡ option_in text 257 r.second
  pub giving : given o.gives ≡ is_some r.third
  pub gives : o.gives ≡ option_in text 257 r.third

pub record AHead (text : List ℕ) (at : ℕ) (r : Head) : Type 0 where
  pub low : at ≤ r.at
  pub high : r.at ≤ length text
  pub name : in_text text r.name
  pub second : in_text text (written r.second)
  pub third : in_text text (written r.third)
  pub reads : {is : List ℕ} (ws' : List Word) (o : Operation) → OperationIn is (words_at text at) ws' o → HeadRead text at ws' o r

-- Entries

pub record AnEntry (text rows rows' : List ℕ) (at count class : ℕ) (strings : Bool) (v : ℕ) (r : Entered) : Type 0 where
  pub bounds : Bounds text at r.at count r.count
  pub small : r.value ≤ 65535
  pub value : (ws' : List Word) (e : Entry) → EntryIn strings v (words_at text at) ws' e → e.value ≡ r.value
  pub goes : (ws' : List Word) (e : Entry) → EntryIn strings v (words_at text at) ws' e → Goes text at r.at ws'
  pub appends : (ws' : List Word) (e : Entry) → EntryIn strings v (words_at text at) ws' e → Room rows count 1
      → Appends text rows rows' count r.count (of_entry class e ∷ [])

-- entries of the family F; the answer's `top` is one above the greatest of their values and of what `top` is one above
pub record SomeEntries (F : List Word → List Entry → Type 0) (text rows rows' : List ℕ) (at count class top : ℕ) (r : Entries) : Type 0 where
  pub bounds : Bounds text at r.at count r.count
  pub most : (ws' : List Word) (es : List Entry) → F ws' es → r.top ≡ next_of top es
  pub goes : (ws' : List Word) (es : List Entry) → F ws' es → Goes text at r.at ws'
  pub appends : (ws' : List Word) (es : List Entry) → F ws' es → Room rows count (length es)
      → Appends text rows rows' count r.count (entry_decls class es)

-- Operations

-- an operation was appended; `is` are the instruction numbers before
pub record AnOperation (text rows rows' : List ℕ) (at count : ℕ) (seen : Seen) (r : Operated) : Type 0 where
  pub bounds : Bounds text at r.at count r.count
  pub adds : (is : List ℕ) (ws' : List Word) (o : Operation) → OperationIn is (words_at text at) ws' o → Kinds is seen
      → Adds (o.instruction ∷ []) seen r.seen
  pub goes : (is : List ℕ) (ws' : List Word) (o : Operation) → OperationIn is (words_at text at) ws' o → Goes text at r.at ws'
  pub appends : (is : List ℕ) (ws' : List Word) (o : Operation) → OperationIn is (words_at text at) ws' o → Kinds is seen → Room rows count 1
      → Appends text rows rows' count r.count (of_operation o ∷ [])

pub record SomeOperations (text rows rows' : List ℕ) (at count : ℕ) (seen : Seen) (r : Operated) : Type 0 where
  pub bounds : Bounds text at r.at count r.count
  pub adds : (is : List ℕ) (ws' : List Word) (os : List Operation) → OperationsIn is (words_at text at) ws' os → Kinds is seen
      → Adds (instructions os) seen r.seen
  pub goes : (is : List ℕ) (ws' : List Word) (os : List Operation) → OperationsIn is (words_at text at) ws' os → Goes text at r.at ws'
  pub appends : (is : List ℕ) (ws' : List Word) (os : List Operation) → OperationsIn is (words_at text at) ws' os → Kinds is seen
      → Room rows count (length os)
      → Appends text rows rows' count r.count (operation_decls os)

-- Sections

-- the code's state is the definition's
pub record Keeps (s : Sofar) (t : State) : Type 0 where
  pub input : t.input ≡ s.input
  pub output : t.output ≡ s.output
  pub error : t.error ≡ s.error
  pub kinds : Kinds s.seen t.seen

-- what entries of a section are: their class, whether they may have strings, the value from which they are counted, and the section

abbrev pub class_of : Listed → ℕ
class_of Inputs = 1
class_of Outputs = 2
class_of Both = 3
class_of Errors = 4

abbrev pub strings_of : Listed → Bool
strings_of Inputs = true
strings_of Outputs = true
strings_of Both = true
strings_of Errors = false

abbrev pub first_value : Listed → ℕ → ℕ → ℕ → ℕ
first_value Inputs i o e = i
first_value Outputs i o e = o
first_value Both i o e = max i o
first_value Errors i o e = e

abbrev pub section_of : Listed → List Entry → Section
section_of Inputs es = inputs es
section_of Outputs es = outputs es
section_of Both es = both es
section_of Errors es = errors es

-- the state after entries, the greatest of which is one below `top`
abbrev pub with_top : Listed → State → ℕ → State
with_top Inputs t top = record { input = max t.input top; output = t.output; error = t.error; seen = t.seen }
with_top Outputs t top = record { input = t.input; output = max t.output top; error = t.error; seen = t.seen }
with_top Both t top = record { input = max t.input top; output = max t.output top; error = t.error; seen = t.seen }
with_top Errors t top = record { input = t.input; output = t.output; error = max t.error top; seen = t.seen }

-- sections after the word that says which

pub data ListedSection (l : Listed) (s : Sofar) (ws ws' : List Word) : Section → Type 0 where
  some_listed : {es : List Entry} {x : Section} → x ≡ section_of l es → ListedIn (strings_of l) (first_value l s.input s.output s.error) ws ws' es → ListedSection l s ws ws' x

pub data TokensIn (s : Sofar) (ws ws' : List Word) : Section → Type 0 where
  alone : {x : Section} → Not 261 ws → ListedSection Inputs s ws ws' x → TokensIn s ws ws' x
  doubled : {second : Word} {ws₁ : List Word} {x : Section} → Took 261 ws second ws₁ → ListedSection Both s ws₁ ws' x → TokensIn s ws ws' x

pub data TypeIn (s : Sofar) (ws ws' : List Word) : Section → Type 0 where
  a_type : {w : Word} {ws₁ : List Word} {es : List Entry} → Took 257 ws w ws₁ → ListedIn false 0 ws₁ ws' es → TypeIn s ws ws' (values w es)

pub data MechanismIn (s : Sofar) (ws ws' : List Word) : Section → Type 0 where
  a_mechanism : {w colon : Word} {ws₁ ws₂ : List Word} {os : List Operation} → Took 257 ws w ws₁ → Took 58 ws₁ colon ws₂ → OperationsIn s.seen ws₂ ws' os
      → MechanismIn s ws ws' (operations os)

pub data OperatorsSectionIn (s : Sofar) (ws ws' : List Word) : Section → Type 0 where
  some_operators_lem : {w colon : Word} {ws₁ ws₂ : List Word} {os : List Operator} → Took 257 ws w ws₁ → Took 58 ws₁ colon ws₂ → OperatorsIn ws₂ ws' os
      → OperatorsSectionIn s ws ws' (operators w os)

-- entries of operators stand at their place in the text
pub record EntriesStand (text : List ℕ) (os : List Operator) : Type 0 where
  pub left : List Word
  pub again : OperatorsIn (words_at text (place_of os)) left os

abbrev pub Stands : List ℕ → Section → Type 0
Stands text (inputs es) = Unit {0}
Stands text (outputs es) = Unit {0}
Stands text (both es) = Unit {0}
Stands text (errors es) = Unit {0}
Stands text (values w es) = Unit {0}
Stands text (operations os) = Unit {0}
Stands text (operators w os) = EntriesStand text os

pub data AllStand (text : List ℕ) : List Section → Type 0 where
  all_none : AllStand text []
  all_more : {x : Section} {xs : List Section} → Stands text x → AllStand text xs → AllStand text (x ∷ xs)

-- a section of the family F, and the state after it
pub record ASection (F : Sofar → List Word → List Word → Section → Type 0) (text rows rows' : List ℕ) (at count : ℕ) (t : State) (r : Sectioned) : Type 0 where
  pub bounds : Bounds text at r.at count r.count
  pub keeps : (s : Sofar) (ws' : List Word) (x : Section) → F s (words_at text at) ws' x → Keeps s t → Keeps (after s x) r.state
  pub goes : (s : Sofar) (ws' : List Word) (x : Section) → F s (words_at text at) ws' x → Keeps s t → Goes text at r.at ws'
  pub appends : (s : Sofar) (ws' : List Word) (x : Section) → F s (words_at text at) ws' x → Keeps s t → Room rows count (names_in x)
      → Appends text rows rows' count r.count (section_decls count x)
  pub stands : (s : Sofar) (ws' : List Word) (x : Section) → F s (words_at text at) ws' x → Stands text x

pub record SomeSections (text rows rows' : List ℕ) (at count : ℕ) (t : State) (r : Spot) : Type 0 where
  pub bounds : Bounds text at r.at count r.count
  pub rest : (s : Sofar) (ws' : List Word) (xs : List Section) → SectionsIn s (words_at text at) ws' xs → Keeps s t → ws' ≡ words_at text r.at
  pub appends : (s : Sofar) (ws' : List Word) (xs : List Section) → SectionsIn s (words_at text at) ws' xs → Keeps s t
      → Room rows count (names_in_all xs)
      → Appends text rows rows' count r.count (sections_decls count xs)
  pub stands : (s : Sofar) (ws' : List Word) (xs : List Section) → SectionsIn s (words_at text at) ws' xs → Keeps s t → AllStand text xs

-- Rules

-- the words from the first semicolon on
unfoldable pub to_semicolon : List Word → List Word
to_semicolon [] = []
to_semicolon (w ∷ ws) = let later = to_semicolon ws in if eqb w.kind 59 then w ∷ ws else later

-- r is the place behind the first semicolon
pub record Skips (text : List ℕ) (at r : ℕ) : Type 0 where
  pub low : at ≤ r
  pub high : r ≤ length text
  pub rest : (semi : Word) (ws' : List Word) → Took 59 (to_semicolon (words_at text at)) semi ws' → ws' ≡ words_at text r

-- a name, its type where it has one, and what stands there up to the next semicolon: a rule, or a line `NAME >> type;` of a common part's list, which is a
-- rule without a body
pub data LineIn (ws ws' : List Word) (r : Rule) : Type 0 where
  a_line : {semi : Word} {ws₁ ws₂ : List Word} → Took 257 ws r.rule ws₁ → GivesIn ws₁ ws₂ r.gives → Took 59 (to_semicolon ws₂) semi ws' → LineIn ws ws' r

-- up to a word that is no name
pub data LinesIn : List Word → List Word → List Rule → Type 0 where
  last_line : {ws ws' : List Word} {r : Rule} → LineIn ws ws' r → Not 257 ws' → LinesIn ws ws' (r ∷ [])
  more_lines : {ws ws' ws₁ : List Word} {r : Rule} {rs : List Rule} → LineIn ws ws₁ r → (peek ws₁).kind ≡ 257 → LinesIn ws₁ ws' rs → LinesIn ws ws' (r ∷ rs)

-- the list of a common part, `NAME >> type;` no or more times
pub data ListIn : List Word → List Word → List Rule → Type 0 where
  no_head : {ws ws' : List Word} → ws' ≡ ws → ListIn ws ws' []
  more_heads : {ws ws' ws₁ ws₂ ws₃ ws₄ : List Word} {w sign g semi : Word} {rs : List Rule} → Took 257 ws w ws₁ → Took 256 ws₁ sign ws₂ → Took 257 ws₂ g ws₃ → Took 59 ws₃ semi ws₄
      → ListIn ws₄ ws' rs → ListIn ws ws' (record { rule = w; gives = some g; body = done; closing = w } ∷ rs)

-- the rule of the place k
pub record ARule (text rows rows' : List ℕ) (at count k : ℕ) (r : Spot) : Type 0 where
  pub bounds : Bounds text at r.at count r.count
  pub goes : (ws' : List Word) (x : Rule) → LineIn (words_at text at) ws' x → Goes text at r.at ws'
  pub appends : (ws' : List Word) (x : Rule) → LineIn (words_at text at) ws' x → Room rows count 1
      → Appends text rows rows' count r.count (of_rule k x ∷ [])

-- rules from the place k on
pub record SomeRules (text rows rows' : List ℕ) (at count k count' : ℕ) : Type 0 where
  pub small : count' ≤ 512
  pub appends : (ws' : List Word) (xs : List Rule) → LinesIn (words_at text at) ws' xs → Room rows count (length xs)
      → Appends text rows rows' count count' (rule_decls k xs)

-- The whole

-- a text with lines for rules: a program, or the sections and the list of a common part with the rules of a part behind them
pub data LinedIn (ws : List Word) (p : Program) : Type 0 where
  lined : {head : Word} {ws₁ ws₂ ws₃ : List Word} → SectionsIn nothing ws ws₁ p.sections → Took 265 ws₁ head ws₂ → LinesIn ws₂ ws₃ p.rules
      → names_in_all p.sections + length p.rules ≤ 512 → LinedIn ws p

-- its rows
pub record RowsFor (p : Program) (text rows' : List ℕ) (r : Collected) : Type 0 where
  pub rows : held text rows' r.count ≡ decls_of p
  pub count : r.count ≡ length (decls_of p)
  pub rules : r.rules ≡ length (sections_decls 0 p.sections)
  -- entries of operators are read again from their places
  pub entries : EntriesAt text (decls_of p) (entries_of p)
  -- the lines are read again from the place `at`
  pub again : {head : Word} {ws₁ ws₂ : List Word} → SectionsIn nothing (words_at text 0) ws₁ p.sections → Took 265 ws₁ head ws₂ → ws₂ ≡ words_at text r.at

-- the rows of a program
pub record CollectedFor (p : Program) (text rows' : List ℕ) (r : Collected) : Type 0 where
  pub rows : held text rows' r.count ≡ decls_of p
  pub count : r.count ≡ length (decls_of p)
  pub rules : r.rules ≡ length (sections_decls 0 p.sections)
  -- entries of operators are read again from their places
  pub entries : EntriesAt text (decls_of p) (entries_of p)
  -- the rules are read again from the place `at`
  pub left : List Word
  pub again : RulesIn (words_at text r.at) left p.rules
  -- up to `end`
  pub ending : (peek left).kind ≡ 266

pub record Collects (text rows rows' : List ℕ) (r : Collected) : Type 0 where
  pub size : length rows' ≡ length rows
  pub early : r.rules ≤ 512
  pub small : r.count ≤ 512
  pub inside : r.at ≤ length text
  pub lines : (p : Program) → LinedIn (words_at text 0) p → length rows ≡ 6017 → RowsFor p text rows' r
  pub collects : (p : Program) → ProgramIn (words_at text 0) p → length rows ≡ 6017 → CollectedFor p text rows' r

-- all of this file computes where this is unfolded
unfoldable pub opened : Unit {0}
unfolding decl_in set_row to_semicolon
opened = tt
