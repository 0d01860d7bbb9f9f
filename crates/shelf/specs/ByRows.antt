-- Rule by rule by the rows that `sst_rules` writes: what a report adds up is what the definitions say.
use Rattle.std.specs.Prelude.{Bool, List, [], ◌∷◌, ◌≡◌, ℕ, ◌+◌, ◌-◌, length, take, drop}
use Rattle.figures.specs.ByRule.{rule_totals}
use Rattle.figures.specs.Figures.{sum, Figures}
use Rattle.figures.specs.Shelf.{Shelf}
use Rattle.figures.specs.Visits.{Given}
use Rattle.machine.specs.Bytes.{count}
use Rattle.mapping.specs.Mapping.{Row, rule_rows}
use Rattle.processor.specs.Process.{process, accepted, understood, meaning}
use Rattle.program.specs.Program.{Rule}
use Rattle.shelf.specs.ByText.{table_left}

-- where the next rule begins; e behind the last
unfoldable pub next_in : List Row → ℕ → ℕ
next_in [] e = e
next_in (r ∷ rs) e = r.location

-- for each rule the counts from its location up to the next one's; the count of location l stands at index l - 1
unfoldable pub row_totals : List Row → ℕ → List ℕ → List ℕ
row_totals [] e counts = []
row_totals (r ∷ rs) e counts = sum (take (next_in rs e - r.location) (drop (r.location - 1) counts)) ∷ row_totals rs e counts

-- over the table of an accepted text: the rules' own totals, and the grand total together
pub record TotalsByRows (text words : List ℕ) (f : Figures) : Type 0 where
  pub prog : List Rule
  pub means : understood text ≡ meaning prog
  pub each : row_totals (rule_rows text) (1 + length words) f.counts ≡ rule_totals prog f.counts
  pub together : sum (row_totals (rule_rows text) (1 + length words) f.counts) ≡ f.total

abbrev pub ByRows : Type 0
ByRows =
    (text lent words : List ℕ) (verdict : Bool) → process text (count lent) ≡ accepted words verdict → (f : Figures) (gs : List Given) → Shelf (table_left text lent) f gs
    → TotalsByRows text words f

-- all of this file computes where this is unfolded
unfoldable pub opened : Unit {0}
unfolding next_in row_totals
opened = tt
