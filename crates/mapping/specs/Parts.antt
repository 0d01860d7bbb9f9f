-- The rows part the table: "a second way takes them rule by rule" by the locations from a rule's own on, up to the next one's.
use Rattle.std.specs.Prelude.{List, [], ◌∷◌, ◌≡◌, ℕ, ◌+◌, length}
use Rattle.mapping.specs.Mapping.{Row, rule_rows}
use Rattle.processor.specs.Process.{meaning, understood}
use Rattle.program.specs.Program.{Rule}
use Rattle.program.specs.Table.{size_rule, table}

-- a row for each rule; from location l on, each rule's words begin at its row's location and end where the next one's begin, the last one's before location e
pub data Parts : ℕ → List Row → List Rule → ℕ → Type 0 where
  none_left : {l e : ℕ} → l ≡ e → Parts l [] [] e
  one_more : {l e : ℕ} {r : Row} {rs : List Row} {b : Rule} {bs : List Rule} → r.location ≡ l → Parts (l + size_rule b) rs bs e → Parts l (r ∷ rs) (b ∷ bs) e

-- so of every text that is understood: from location 1 to the end of its table
abbrev pub PartsTable : Type 0
PartsTable = (text : List ℕ) (prog : List Rule) → understood text ≡ meaning prog → Parts 1 (rule_rows text) prog (1 + length (table prog))
