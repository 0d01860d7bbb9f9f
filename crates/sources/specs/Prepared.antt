-- What making a text ready for carrying promises: its table and its rules' rows, or the number and the part of its first fault.
use Rattle.std.specs.Prelude.{Bool, List, ◌++◌, ◌≡◌, ℕ, ◌≤◌, length}
use Rattle.carrier.specs.Held.{count_held}
use Rattle.carrier.specs.Sheets.{Sheet}
use Rattle.carry.specs.Carry.{source_of}
use Rattle.emitter.specs.Emitted.{CellsOf}
use Rattle.frontend.specs.Resolving.{Rowed}
use Rattle.frontend.specs.declared.Resolved.{Resolved}
use Rattle.machine.specs.Bytes.{words_of}
use Rattle.mapper.specs.Mapped.{Placed}
use Rattle.names.specs.Known.{good}
use Rattle.names.specs.Understand.{understand}
use Rattle.processor.specs.Process.{Part, Answer, accepted, refused, process}
use Rattle.program.specs.Program.{Rule}
use Rattle.program.specs.Table as Table
use Rattle.syntax.specs.Parse.{parse}
use Rattle.syntax.specs.Reading.{got}
use Rattle.syntax.specs.Written.{Program}
use Rattle.words.specs.Words.{Word}

-- the rows are those of the text's source, and the table begins with its rules' words
pub record Tabled (text table sheet : List ℕ) : Type 0 where
  pub long : length sheet ≡ 770
  pub rows : Sheet text sheet (source_of text)
  pub more : List ℕ
  pub bytes : words_of table ≡ Table.table (source_of text).rules ++ more

-- what is told of a text, by the processor's answer for a lent table of 4,096 words: "A walk is carried between accepted programs"
pub data Prepares (text table sheet : List ℕ) (number start len : ℕ) : Answer → Type 0 where
  ready : {ws : List ℕ} {v : Bool} → number ≡ 0 → Tabled text table sheet → Prepares text table sheet number start len (accepted ws v)
  unready : {n : ℕ} {at : Part} → number ≡ n → (n ≡ 0 → ⊥) → start ≡ at.start → len ≡ at.size → Prepares text table sheet number start len (refused n at)

-- Before there is a table

-- the rows are those of the text's source, and its rules are in the cells; their table has its room
pub record Sourced (text cells sorts sheet : List ℕ) : Type 0 where
  pub long : length sheet ≡ 770
  pub rows : Sheet text sheet (source_of text)
  pub cells_are : CellsOf cells sorts (count_held sheet) (source_of text).rules
  pub short : Table.size_rules (source_of text).rules ≤ 4096

-- a table that begins with the rules' words
pub record Begins (table : List ℕ) (prog : List Rule) : Type 0 where
  pub more : List ℕ
  pub bytes : words_of table ≡ Table.table prog ++ more

-- a text that has no fault is in the buffers; with its table, should there be one, this is what is told of it
pub record Reads (text cells sorts sheet : List ℕ) (number start len : ℕ) : Type 0 where
  pub sourced : number ≡ 0 → Sourced text cells sorts sheet
  pub prepares : {table : List ℕ} → (number ≡ 0 → Begins table (source_of text).rules) → Prepares text table sheet number start len (process text 4096)

-- the table of whatever rules are in the cells, if it has its room
pub record Writes (cells sorts sheet table : List ℕ) : Type 0 where
  pub writes : (prog : List Rule) → CellsOf cells sorts (count_held sheet) prog → Table.size_rules prog ≤ 4096 → Begins table prog

-- the text was read, and what it means is in the buffers, whole
pub record InBuffers (text rows : List ℕ) (b : Resolved) (cells sorts : List ℕ) : Type 0 where
  pub tree : Program
  pub rest : List Word
  pub reads : parse text ≡ got tree rest
  pub prog : List Rule
  pub means : understand tree ≡ good prog
  pub cells_are : CellsOf cells sorts b.rules prog
  pub rowed : Rowed text rows b tree
  pub placed : Placed text rows b
