-- Totals by spans of locations: what the entries of "a second way takes them rule by rule" tell, over bytes alone.
use Rattle.std.specs.Prelude.{List, [], ◌∷◌, ℕ, zero, suc, ◌+◌, ◌*◌, ◌-◌, ◌/◌, length, take, drop, if◌then◌else◌}
use Rattle.std.proofs.Math.Option.{Option, none, some}
use Rattle.figures.specs.Figures.{sum, Figures, below64}
use Rattle.figures.specs.Form.{number_at, figures_of}
use Rattle.machine.specs.Bytes.{words_of}

-- the counts up to location `to` and without it, from location `from` on; the count of location l stands at index l - 1, and location 0 has none
unfoldable pub span_total : ℕ → ℕ → List ℕ → ℕ
span_total from to counts = sum (drop (from - 1) (take (to - 1) counts))

-- where the next span begins; e behind the last
unfoldable pub next_at : List ℕ → ℕ → ℕ
next_at [] e = e
next_at (l ∷ ls) e = l

-- for each location the counts from it up to the next one's
unfoldable pub span_totals : List ℕ → ℕ → List ℕ → List ℕ
span_totals [] e counts = []
span_totals (l ∷ ls) e counts = span_total l (next_at ls e) counts ∷ span_totals ls e counts

-- the location of a row: the third of its three numbers
unfoldable pub location_at : List ℕ → ℕ → ℕ
location_at ws i = number_at ws (3 * i + 2)

-- those of n rows from row i on
unfoldable pub locations_at : List ℕ → ℕ → ℕ → List ℕ
locations_at ws i zero = []
locations_at ws i (suc n) = location_at ws i ∷ locations_at ws (i + 1) n

-- those of all whole rows, each of 24 bytes
unfoldable pub locations_in : List ℕ → List ℕ
locations_in rows = locations_at (words_of rows) 0 (length rows / 24)

-- a number and a total
pub record Total : Type 0 where
  pub number : ℕ
  pub total : ℕ

abbrev pub tells : ℕ → ℕ → Total
tells number total = record { number = number; total = total }

-- the total of one span: 21 for bytes that are no figures
unfoldable pub span_of : Option Figures → ℕ → ℕ → Total
span_of none from to = tells 21 0
span_of (some f) from to = tells 0 (span_total from to f.counts)

unfoldable pub span_bytes : List ℕ → ℕ → ℕ → Total
span_bytes figures from to = span_of (figures_of figures) from to

-- "46 for any of these numbers past 64 bits", as where rows overlap
unfoldable pub bounded : ℕ → Total
bounded t = if below64 t then tells 0 t else tells 46 0

-- the totals of all rows together
unfoldable pub together_of : Option Figures → List ℕ → ℕ → Total
together_of none ls e = tells 21 0
together_of (some f) ls e = bounded (sum (span_totals ls e f.counts))

unfoldable pub together_bytes : List ℕ → List ℕ → ℕ → Total
together_bytes figures rows e = together_of (figures_of figures) (locations_in rows) e

-- all of this file computes where this is unfolded
unfoldable pub opened : Unit {0}
unfolding span_total next_at span_totals location_at locations_at locations_in span_of span_bytes bounded together_of together_bytes
opened = tt
