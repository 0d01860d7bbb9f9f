-- The byte form of figures (docs/LAYOUT.md), and adding a book over bytes alone.
use Rattle.std.specs.Prelude.{List, [], ◌∷◌, ◌++◌, ℕ, zero, suc, ◌+◌, ◌*◌, eqb, length, drop, if◌then◌else◌}
use Rattle.std.proofs.Math.Option.{Option, none, some}
use Rattle.figures.specs.Figures.{Figures, plus, covered, mean_whole, mean_rest, within64, sound}
use Rattle.figures.specs.Visits.{Given, called}
use Rattle.machine.specs.Bytes.{count, words_of, table_of, bytes_of, over}
use Rattle.machine.specs.Call.{Called}
use Rattle.machine.specs.Form.{words64, number64, events_words}

-- numbers of 64 bits one after the other
unfoldable pub number_words : List ℕ → List ℕ
number_words [] = []
number_words (n ∷ ns) = words64 n ++ number_words ns

-- the 4,162 numbers of figures
unfoldable pub numbers : Figures → List ℕ
numbers f = f.counts ++ (f.bits ++ (f.books ∷ f.total ∷ []))

unfoldable pub figures_bytes : Figures → List ℕ
figures_bytes f = bytes_of (number_words (numbers f))

-- number i of the words, from 0
unfoldable pub number_at : List ℕ → ℕ → ℕ
number_at ws i = number64 (drop (4 * i) ws)

-- n numbers from number i on
unfoldable pub numbers_at : List ℕ → ℕ → ℕ → List ℕ
numbers_at ws i zero = []
numbers_at ws i (suc n) = number_at ws i ∷ numbers_at ws (i + 1) n

-- what the words name, if they are figures'
unfoldable pub figures_named : List ℕ → Figures
figures_named ws = record { counts = numbers_at ws 0 4096; bits = numbers_at ws 4096 64; books = number_at ws 4160; total = number_at ws 4161 }

-- the figures that the bytes are; none for another length, or figures whose parts do not fit together
unfoldable pub figures_of : List ℕ → Option Figures
figures_of s = let f = figures_named (words_of s) in if eqb (length s) 33296 then (if sound f then some f else none) else none

-- Adding a book

-- what adding a book gives: its number, the figures' bytes, the event buffer's bytes, events written, steps done
pub record Outcome : Type 0 where
  pub number : ℕ
  pub figures : List ℕ
  pub buffer : List ℕ
  pub events : ℕ
  pub steps : ℕ

-- "the figures and event buffer unchanged"
unfoldable pub unchanged : ℕ → List ℕ → List ℕ → Outcome
unchanged number figures buffer = record { number = number; figures = figures; buffer = buffer; events = 0; steps = 0 }

-- the book's call c is done, and f are the figures with it; its number may be 35 or 36 too: what was done is counted
unfoldable pub counted : Called → Figures → List ℕ → Outcome
counted c f buffer = record {
  number = c.number;
  figures = figures_bytes f;
  buffer = over (bytes_of (events_words c.events)) buffer;
  events = length c.events;
  steps = c.steps;
}

-- 21 for bytes that are no figures; "46 for any of these numbers past 64 bits, found before the book is added"; then the call's own number
unfoldable pub added : List ℕ → Given → Option Figures → List ℕ → List ℕ → Outcome
added T g none figures buffer = unchanged 21 figures buffer
added T g (some f) figures buffer = if within64 (plus T g f) then counted (called T g) (plus T g f) buffer else unchanged 46 figures buffer

-- what a book is added with, over bytes
unfoldable pub given_of : List ℕ → List ℕ → ℕ → ℕ → List ℕ → Given
given_of tokens answers budget allowance buffer = record { tokens = words_of tokens; answers = words_of answers; budget = budget; allowance = allowance; room = count buffer }

-- a book added over the bytes of table, tokens, answers, figures and event buffer
unfoldable pub add_bytes : List ℕ → List ℕ → List ℕ → ℕ → ℕ → List ℕ → List ℕ → Outcome
add_bytes table tokens answers budget allowance figures buffer =
    added (table_of table) (given_of tokens answers budget allowance buffer) (figures_of figures) figures buffer

-- What the report has of the whole shelf

pub record Report : Type 0 where
  pub number : ℕ
  pub books : ℕ
  pub total : ℕ
  pub covered : ℕ
  pub mean : ℕ
  pub rest : ℕ

unfoldable pub report_of : Option Figures → Report
report_of none = record { number = 21; books = 0; total = 0; covered = 0; mean = 0; rest = 0 }
report_of (some f) = record { number = 0; books = f.books; total = f.total; covered = covered f.bits; mean = mean_whole f; rest = mean_rest f }

unfoldable pub shelf_bytes : List ℕ → Report
shelf_bytes figures = report_of (figures_of figures)

-- all of this file computes where this is unfolded
unfoldable pub opened : Unit {0}
unfolding number_words numbers figures_bytes number_at numbers_at figures_named figures_of unchanged counted added given_of add_bytes report_of shelf_bytes
opened = tt
