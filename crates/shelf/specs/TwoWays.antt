-- "a second way takes them rule by rule and must reach the same grand total, which is the number of instructions done in all walks", as a caller from C meets
-- it: who adds books by `sst_add_book` over the table that `sst_process` left, has the rows that `sst_rules` wrote, and asks `sst_shelf` and `sst_rules_total`.
use Rattle.std.specs.Prelude.{Bool, List, ◌≡◌, ℕ, ◌+◌, ◌*◌, length, take}
use Rattle.figures.specs.Form.{shelf_bytes}
use Rattle.figures.specs.Shelf.{all_steps}
use Rattle.figures.specs.Spans.{together_bytes}
use Rattle.figures.specs.Visits.{Given}
use Rattle.machine.specs.Bytes.{count}
use Rattle.mapping.specs.Mapping.{Row, mapped, map_rules, room_in, lent_rows}
use Rattle.processor.specs.Process.{process, accepted, lent_bytes}
use Rattle.shelf.specs.Books.{Calls}
use Rattle.shelf.specs.ByText.{table_left}

-- over the table T, with the bytes of all rules' rows and the location e behind the table
pub record BothWays (T rows : List ℕ) (e : ℕ) (figures : List ℕ) (gs : List Given) : Type 0 where
  -- neither is refused
  pub shelf : (shelf_bytes figures).number ≡ 0
  pub rules : (together_bytes figures rows e).number ≡ 0
  -- "must reach the same grand total"
  pub same : (together_bytes figures rows e).total ≡ (shelf_bytes figures).total
  -- "which is the number of instructions done in all walks"
  pub instructions : (shelf_bytes figures).total ≡ all_steps T gs

-- the text is accepted, books were added, and the rules were mapped into lent bytes: the rows are the first bytes there
abbrev pub TwoWays : Type 0
TwoWays =
    (text lent words : List ℕ) (verdict : Bool) → process text (count lent) ≡ accepted words verdict
    → (figures : List ℕ) (gs : List Given) → Calls (lent_bytes (process text (count lent)) lent) figures gs
    → (lent_for_rows : List ℕ) (rows : List Row) → map_rules text (room_in lent_for_rows) ≡ mapped rows
    → BothWays (table_left text lent) (take (24 * length rows) (lent_rows (mapped rows) lent_for_rows)) (1 + length words) figures gs
