-- The processor: a text and a lent buffer give a table and a verdict, or a number and a part of the text.
use Rattle.std.specs.Prelude.{Bool, ◌&&◌, List, ◌++◌, ℕ, ◌*◌, ◌-◌, leb, length, drop, replicate, if◌then◌else◌}
use Rattle.finishing.specs.Test.{finishing}
use Rattle.machine.specs.Bytes.{count, bytes_of}
use Rattle.names.specs.Known.{Checked, good, wrong}
use Rattle.names.specs.Understand.{understand}
use Rattle.program.specs.Program.{Rule}
use Rattle.program.specs.Table.{size_rules, table}
use Rattle.syntax.specs.Parse.{parse, end_of}
use Rattle.syntax.specs.Reading.{Read, got, fault}
use Rattle.syntax.specs.Written.{Program}
use Rattle.words.specs.Words.{Word}

-- "The word at fault is handed back as a part of the author's text": where it starts, and its length
pub record Part : Type 0 where
  pub start : ℕ
  pub size : ℕ

unfoldable pub part_of : Word → Part
part_of w = record { start = w.start; size = length w.text }

-- a text understood: its rules, or the first fault of "1, 2, 9 by the first word in the text, ..; then 3 to 8 likewise"
pub data Understood : Type 0 where
  meaning : List Rule → Understood
  faulty : ℕ → Part → Understood

unfoldable pub checked : Checked (List Rule) → Understood
checked (good prog) = meaning prog
checked (wrong n w) = faulty n (part_of w)

unfoldable pub read_in : Read Program → Understood
read_in (got p ws) = checked (understand p)
read_in (fault n w) = faulty n (part_of w)

unfoldable pub understood : List ℕ → Understood
understood text = read_in (parse text)

-- what the processor answers: the table's words and the verdict, or a number and the part of the text at fault
pub data Answer : Type 0 where
  accepted : List ℕ → Bool → Answer
  refused : ℕ → Part → Answer

-- "then 20": "20 the table passes the lent buffer or 4,096 words"; "for over-long text and 20 it is the empty part at the end"
unfoldable pub answer_for : List ℕ → ℕ → Understood → Answer
answer_for text room (faulty n w) = refused n w
answer_for text room (meaning prog) =
    let fits : Answer = accepted (table prog) (finishing prog) in
    if leb (size_rules prog) room && leb (size_rules prog) 4096 then fits else refused 20 (part_of (end_of text))

-- a text, and a lent buffer of so many words
unfoldable pub process : List ℕ → ℕ → Answer
process text room = answer_for text room (understood text)

-- What stands in the lent words: "On acceptance the words after the table are zero."; "lent table all zero words", "table zeroed"
unfoldable pub lent_words : Answer → ℕ → List ℕ
lent_words (accepted words verdict) n = words ++ replicate (n - length words) 0
lent_words (refused number at) n = replicate n 0

-- the lent bytes after the call; "an odd last byte counts for nothing and is not touched"
unfoldable pub lent_bytes : Answer → List ℕ → List ℕ
lent_bytes a lent = bytes_of (lent_words a (count lent)) ++ drop (2 * count lent) lent

-- all of this file computes where this is unfolded
unfoldable pub opened : Unit {0}
unfolding part_of checked read_in understood answer_for process lent_words lent_bytes
opened = tt
