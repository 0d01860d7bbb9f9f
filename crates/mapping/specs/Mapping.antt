-- The map of a text's rules, those made for operators among them: where each rule's name stands in the text, and where its words begin in the table. With it
-- figures are taken "rule by rule".
use Rattle.std.specs.Prelude.{List, [], ◌∷◌, ◌++◌, ℕ, zero, suc, ◌+◌, ◌-◌, ◌/◌, leb, length, if◌then◌else◌}
use Rattle.machine.specs.Bytes.{bytes_of, over}
use Rattle.machine.specs.Form.{words64}
use Rattle.names.specs.Declare.{declare_sections}
use Rattle.names.specs.Known.{Checked, good, wrong, Names}
use Rattle.names.specs.Understand.{nobody, understand}
use Rattle.names.specs.Uses.{Use, pairs_of, levels_used}
use Rattle.processor.specs.Process as processor
use Rattle.processor.specs.Process.{process}
use Rattle.program.specs.Program.{Rule}
use Rattle.program.specs.Table.{place}
use Rattle.syntax.specs.Parse.{parse}
use Rattle.syntax.specs.Reading.{Read, got, fault}
use Rattle.syntax.specs.Written as written
use Rattle.syntax.specs.Written.{Program}
use Rattle.words.specs.Words.{Word}

-- a rule: its name as a part of the text, and the location of its first word
pub record Row : Type 0 where
  pub start : ℕ
  pub size : ℕ
  pub location : ℕ

abbrev pub row_of : Word → ℕ → Row
row_of w l = record { start = w.start; size = length w.text; location = l }

-- "Rules stand in text order from location 1.": the rules of a text from rule i of the program on
unfoldable pub rows_from : List Rule → ℕ → List written.Rule → List Row
rows_from prog i [] = []
rows_from prog i (r ∷ rs) = row_of r.rule (place 1 prog i) ∷ rows_from prog (suc i) rs

-- a rule made for a pair is named by the pair's first use, from its `^` to the end of the operand rule's name
abbrev pub row_for : Use → ℕ → Row
row_for u l = record { start = u.sign.start; size = u.operand.start + length u.operand.text - u.sign.start; location = l }

-- "lowest level first": the rows of k rules made for a pair, from rule i of the program on
unfoldable pub level_rows : List Rule → Use → ℕ → ℕ → List Row
level_rows prog u i zero = []
level_rows prog u i (suc k) = row_for u (place 1 prog i) ∷ level_rows prog u (suc i) k

-- "as if written after the last rule, for each pair of section and operand rule in the order of first use"
unfoldable pub made_rows : List Rule → Names → ℕ → List Use → List Row
made_rows prog n i [] = []
made_rows prog n i (u ∷ us) = level_rows prog u i (length (levels_used n u)) ++ made_rows prog n (i + length (levels_used n u)) us

-- a text that is not read or not understood has none
unfoldable pub rows_of : Program → Checked Names → Checked (List Rule) → List Row
rows_of p (good n) (good prog) = rows_from prog 0 p.rules ++ made_rows prog n (length p.rules) (pairs_of p.rules)
rows_of p (good n) (wrong m w) = []
rows_of p (wrong m w) c = []

unfoldable pub rows_read : Read Program → List Row
rows_read (got p ws) = rows_of p (declare_sections p p.sections nobody) (understand p)
rows_read (fault n w) = []

unfoldable pub rule_rows : List ℕ → List Row
rule_rows text = rows_read (parse text)

-- what the call answers: the rows, or a number
pub data Answer : Type 0 where
  mapped : List Row → Answer
  refused : ℕ → Answer

-- the number of a text that the processor refuses; "20 the table passes the lent buffer", and so where there is no room for the rows
unfoldable pub map_of : List Row → ℕ → processor.Answer → Answer
map_of rows room (processor.refused n at) = refused n
map_of rows room (processor.accepted words verdict) = if leb (length rows) room then mapped rows else refused 20

-- a text, and room for so many rows; as with a lent table of 4,096 words
unfoldable pub map_rules : List ℕ → ℕ → Answer
map_rules text room = map_of (rule_rows text) room (process text 4096)

-- the number, and how many rows there are
pub record Numbers : Type 0 where
  pub number : ℕ
  pub rules : ℕ

unfoldable pub numbers_of : Answer → Numbers
numbers_of (mapped rows) = record { number = 0; rules = length rows }
numbers_of (refused n) = record { number = n; rules = 0 }

-- Bytes: three numbers of 64 bits a row, high byte first

unfoldable pub row_words : Row → List ℕ
row_words r = words64 r.start ++ (words64 r.size ++ words64 r.location)

unfoldable pub rows_words : List Row → List ℕ
rows_words [] = []
rows_words (r ∷ rs) = row_words r ++ rows_words rs

-- whole rows in a buffer
unfoldable pub room_in : List ℕ → ℕ
room_in lent = length lent / 24

-- the lent bytes after the call: bytes behind the last row are kept
unfoldable pub lent_rows : Answer → List ℕ → List ℕ
lent_rows (mapped rows) lent = over (bytes_of (rows_words rows)) lent
lent_rows (refused n) lent = lent

-- what a call leaves with its caller
abbrev pub tells : ℕ → ℕ → Numbers
tells number rules = record { number = number; rules = rules }

-- all of this file computes where this is unfolded
unfoldable pub opened : Unit {0}
unfolding rows_from level_rows made_rows rows_of rows_read rule_rows map_of map_rules numbers_of row_words rows_words room_in lent_rows
opened = tt
