-- "for the table of an accepted program a second way takes them rule by rule": over the bytes that the processor leaves for an accepted text.
use Rattle.std.specs.Prelude.{Bool, List, ◌≡◌, ℕ}
use Rattle.figures.specs.Figures.{Figures}
use Rattle.figures.specs.Shelf.{Shelf, RuleByRule}
use Rattle.figures.specs.Visits.{Given}
use Rattle.machine.specs.Bytes.{count, table_of}
use Rattle.processor.specs.Process.{process, accepted, understood, meaning, lent_bytes}
use Rattle.program.specs.Program.{Rule}

-- the table that the processor leaves in a lent buffer
unfoldable pub table_left : List ℕ → List ℕ → List ℕ
table_left text lent = table_of (lent_bytes (process text (count lent)) lent)

-- for every accepted text, the program that it means and every shelf over its table
abbrev pub ByText : Type 0
ByText =
    (text lent words : List ℕ) (verdict : Bool) → process text (count lent) ≡ accepted words verdict → (prog : List Rule) → understood text ≡ meaning prog
    → (f : Figures) (gs : List Given) → Shelf (table_left text lent) f gs → RuleByRule (table_left text lent) prog f gs
