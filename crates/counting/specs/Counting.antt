-- A book's call in the order of the code, over the walker's definitions: what it gives, and the locations of its steps.
use Rattle.std.specs.Prelude.{Result, Ok, Err, Bool, true, false, List, [], ◌∷◌, ◌++◌, ◌≡◌, ℕ, zero, suc, ◌+◌, ◌-◌, ◌<◌, ◌≤◌, leb, ltb, length, set, replicate, if◌then◌else◌}
use Rattle.figures.specs.Figures.{bits_of, sound}
use Rattle.figures.specs.Form as form
use Rattle.figures.specs.Form.{number_at, numbers_at, figures_named}
use Rattle.figures.specs.Spans as spans
use Rattle.counting.specs.declared.FiguresError.{FiguresError}
use Rattle.counting.specs.declared.FiguresError.TheVariants.{NoFigures, Past}
use Rattle.counting.specs.declared.Report.{Report}
use Rattle.counting.specs.declared.Sums.{Sums}
use Rattle.counting.specs.declared.Told.{Told}
use Rattle.machine.specs.Bytes.{words_of}
use Rattle.walker.specs.Shape.{fresh_at, with_depth, step_of, go_of, ending_number, Outcome}
use Rattle.walker.specs.declared.Next.{Next}
use Rattle.walker.specs.declared.Next.TheVariants.{Full, Stop, On, Tells, Push, Waits}
use Rattle.walker.specs.declared.Registers.{Registers}

-- the locations of up to n steps from the registers r and the return locations rs, with so many words left for events
unfoldable pub visits_of : List ℕ → List ℕ → List ℕ → ℕ → Registers → List ℕ → ℕ → List ℕ
visits_of t k a zero r rs room = []
visits_of t k a (suc n) r rs room =
    elim (step_of rs t k a room false r) [
      | Full ↦ []
      | Next.Outside ↦ []
      | Stop x ↦ r.location ∷ []
      | On v ↦ r.location ∷ visits_of t k a n v rs room
      | Tells v x ↦ r.location ∷ visits_of t k a n v rs (room - 3)
      | Push v l ↦ r.location ∷ visits_of t k a n (with_depth v (v.depth + 1)) (set rs v.depth l) room
      | Waits v x ↦ r.location ∷ []
    ]

-- those of a whole call from a fresh walk
unfoldable pub book_visits : List ℕ → List ℕ → List ℕ → ℕ → ℕ → ℕ → List ℕ
book_visits t k a budget allowance words = visits_of t k a budget (fresh_at allowance) (replicate 64 0) words

-- what that call gives, o being the event buffer
unfoldable pub book_of : List ℕ → List ℕ → List ℕ → ℕ → ℕ → List ℕ → Outcome
book_of t k a budget allowance o = go_of t k a false budget (fresh_at allowance) (replicate 64 0) o 0 0

-- a location of 4,096
abbrev pub Inside : ℕ → Type 0
Inside l = (0 < l) × (l ≤ 4096)

-- what a book's call tells, its ending as a number
pub record Numbers : Type 0 where
  pub number : ℕ
  pub events : ℕ
  pub steps : ℕ

abbrev pub told_of : ℕ → ℕ → ℕ → Numbers
told_of number events steps = record { number = number; events = events; steps = steps }

abbrev pub numbers_told : Told → Numbers
numbers_told r = told_of (ending_number r.ending) r.events r.steps

-- the numbers of figures with the bits of their counts
unfoldable pub numbers_of : List ℕ → ℕ → ℕ → List ℕ
numbers_of counts books total = counts ++ (bits_of 64 counts ++ (books ∷ total ∷ []))

-- whether so many steps pass those that are left; a budget that does not pass them tells as much
unfoldable pub past_of : ℕ → ℕ → ℕ → Bool
past_of steps budget left = if leb budget left then false else ltb left steps

-- the number that C is told of an error
abbrev pub error_number : FiguresError → ℕ
error_number NoFigures = 21
error_number Past = 46

-- the bytes are sound figures, with these counts, books and total
pub record Named (s counts : List ℕ) (sums : Sums) : Type 0 where
  pub long : length s ≡ 33296
  pub good : sound (figures_named (words_of s)) ≡ true
  pub counts_are : counts ≡ numbers_at (words_of s) 0 4096
  pub books_are : sums.books ≡ number_at (words_of s) 4160
  pub total_is : sums.total ≡ number_at (words_of s) 4161
  pub books_low : sums.books < 18446744073709551616
  pub total_low : sums.total < 18446744073709551616

-- what adding a book gives, by its parts: with an error no event and no step
abbrev pub gives : Result Told FiguresError → List ℕ → List ℕ → form.Outcome
gives (Ok r) figures buffer = record { number = ending_number r.ending; figures = figures; buffer = buffer; events = r.events; steps = r.steps }
gives (Err e) figures buffer = record { number = error_number e; figures = figures; buffer = buffer; events = 0; steps = 0 }

abbrev pub reports : Result Report FiguresError → form.Report
reports (Ok r) = record { number = 0; books = r.books; total = r.total; covered = r.covered; mean = r.mean; rest = r.rest }
reports (Err e) = record { number = error_number e; books = 0; total = 0; covered = 0; mean = 0; rest = 0 }

abbrev pub totals : Result ℕ FiguresError → spans.Total
totals (Ok t) = spans.tells 0 t
totals (Err e) = spans.tells (error_number e) 0
