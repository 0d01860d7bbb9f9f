-- The figure of the program whose table and rules' starts are given.
use Rattle.std.specs.Prelude.{Option, Some, None, List, ◌≡◌, ℕ, ◌≤◌, length}
use Rattle.figure.specs.Count as count
use Rattle.figure.specs.Told.{Told, told}
use Rattle.finishing.specs.Finishing.{Finishing}
use Rattle.machine.specs.Bytes.{table_of}
use Rattle.meter.specs.Found.{Found}
use Rattle.meter.specs.Starts.{starts_in}
use Rattle.program.specs.Accepted.{Accepted}
use Rattle.program.specs.Program.{Rule}
use Rattle.program.specs.Table.{table}

-- the table of prog, which is accepted and finishing, and where its rules start
pub record Tabled (bytes starts : List ℕ) (prog : List Rule) : Type 0 where
  pub words : table_of bytes ≡ table prog
  pub begins : starts ≡ starts_in prog
  pub few : length prog ≤ 128
  pub accepts : Accepted prog
  pub finishes : Finishing prog

-- those of some program
pub record IsTabled (bytes starts : List ℕ) : Type 0 where
  pub prog : List Rule
  pub tabled : Tabled bytes starts prog

-- what is found in its table
abbrev pub Measures : List ℕ → List ℕ → ℕ → Type 0
Measures bytes starts q = (prog : List Rule) → Tabled bytes starts prog → Found (table prog) (starts_in prog) q

abbrev pub as_told : Option ℕ → Told
as_told (Some q) = record { figure = q; number = 0 }
as_told None = record { figure = 0; number = 47 }

-- Q, or 47
abbrev pub FigureOf : List ℕ → List ℕ → Option ℕ → Type 0
FigureOf bytes starts f = (prog : List Rule) → Tabled bytes starts prog → as_told f ≡ told (count.figure prog)
