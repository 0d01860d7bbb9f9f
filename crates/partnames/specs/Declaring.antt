-- A common part up to its `end`, read again: its rows. `rows` are those before, `rows'` those after.
use Rattle.std.specs.Prelude.{Bool, true, false, List, ◌++◌, ◌≡◌, ℕ, ◌+◌, ◌≤◌, min, length}
use Rattle.collector.specs.Collecting.{AllStand, Appends, Bounds, ListIn, Room}
use Rattle.collector.specs.declared.Spot.{Spot}
use Rattle.declarations.specs.Decls.{rule_decls, sections_decls}
use Rattle.grammar.specs.Derived.{Took, Not, SectionsIn}
use Rattle.parts.specs.Objects.{as_rules}
use Rattle.partnames.specs.declared.Declared.{Declared}
use Rattle.symbols.specs.Rows.{held}
use Rattle.syntax.specs.Sections.{names_in_all, nothing}
use Rattle.syntax.specs.Texts.{Common}
use Rattle.syntax.specs.Written.{Rule}
use Rattle.words.specs.Words.{Word, words_at}

-- the common part c is read from ws up to its `end`, and ws' are the words behind it
pub record CommonIn (ws ws' : List Word) (c : Common) : Type 0 where
  pub head : Word
  pub before : List Word
  pub behind : List Word
  pub sections : SectionsIn nothing ws before c.sections
  pub rules : Took 265 before head behind
  pub list : ListIn behind ws' (as_rules c.listed)
  pub names : names_in_all c.sections + c.left ≡ 512
  pub few : length c.listed ≤ min 128 c.left

-- no line of a list, `NAME >> type;`, begins here: the text ends, or a rule of a part begins
pub data NoLine (ws : List Word) : Type 0 where
  no_name : Not 257 ws → NoLine ws
  no_type : {w : Word} {ws₁ : List Word} → Took 257 ws w ws₁ → Not 256 ws₁ → NoLine ws
  no_semicolon : {w sign g : Word} {ws₁ ws₂ ws₃ : List Word} → Took 257 ws w ws₁ → Took 256 ws₁ sign ws₂ → Took 257 ws₂ g ws₃ → Not 59 ws₃ → NoLine ws

-- whether a line begins at the place `at`
pub record BeginsLine (text : List ℕ) (at : ℕ) (r : Bool) : Type 0 where
  pub line : {w sign g semi : Word} {ws₁ ws₂ ws₃ ws₄ : List Word} → Took 257 (words_at text at) w ws₁ → Took 256 ws₁ sign ws₂ → Took 257 ws₂ g ws₃ → Took 59 ws₃ semi ws₄ → r ≡ true
  pub none : NoLine (words_at text at) → r ≡ false

-- the lines of the list from the place `at` on, the first of them being rule k
pub record SomeLines (text rows rows' : List ℕ) (at count k : ℕ) (r : Spot) : Type 0 where
  pub bounds : Bounds text at r.at count r.count
  pub rest : (ws' : List Word) (xs : List Rule) → ListIn (words_at text at) ws' xs → NoLine ws' → ws' ≡ words_at text r.at
  pub appends : (ws' : List Word) (xs : List Rule) → ListIn (words_at text at) ws' xs → NoLine ws' → Room rows count (length xs)
      → Appends text rows rows' count r.count (rule_decls k xs)

-- the rows of the common part c
pub record CommonRows (text rows' : List ℕ) (r : Declared) (ws' : List Word) (c : Common) : Type 0 where
  pub rows : held text rows' r.count ≡ sections_decls 0 c.sections ++ rule_decls 0 (as_rules c.listed)
  pub first : r.first ≡ names_in_all c.sections
  pub count : r.count ≡ r.first + length c.listed
  -- entries of operators are read again from their places
  pub stands : AllStand text c.sections
  -- what is behind the list
  pub rest : ws' ≡ words_at text r.at

pub record Declares (text rows rows' : List ℕ) (r : Declared) : Type 0 where
  pub size : length rows' ≡ length rows
  pub early : r.first ≤ r.count
  pub small : r.count ≤ 512
  pub inside : r.at ≤ length text
  pub common : (c : Common) (ws' : List Word) → CommonIn (words_at text 0) ws' c → NoLine ws' → length rows ≡ 6017 → CommonRows text rows' r ws' c
