-- What is promised of the figure, in the words of the request. The proofs are in proofs/Battery.antt.
use Rattle.std.specs.Prelude.{List, ◌++◌, ◌≡◌, ℕ, suc, ◌+◌, ◌*◌, ◌≤◌, ◌<◌, length}
use Rattle.std.proofs.Math.Option.{none, some}
use Rattle.agreement.specs.Demand.{Suffices, StepsBelow}
use Rattle.finishing.specs.Finishing.{Finishing}
use Rattle.program.specs.Accepted.{Accepted}
use Rattle.program.specs.Program.{Rule}
use Rattle.program.specs.Table.{place, table}
use Rattle.figure.specs.Count.{most_figure, figure}
use Rattle.figure.specs.Figure.{Bounds, Figure, Long}

-- "that rule's own start": a location at which one of the program's rules begins
pub data RuleStart (prog : List Rule) (s : ℕ) : Type 0 where
  rule_start : (r : ℕ) → r < length prog → s ≡ place 1 prog r → RuleStart prog s

-- "For a finishing program let Q be the most instructions on a quiet path from any instruction of a rule, .. to that rule's return or to a stop": what is
-- computed is that number, and 47 is not due
pub record IsFigure (prog : List Rule) (q : ℕ) : Type 0 where
  pub exact : Figure (table prog) (RuleStart prog) q
  pub small : q ≤ most_figure

abbrev pub FigureExact : Type 0
FigureExact = (prog : List Rule) → Accepted prog → Finishing prog → (q : ℕ) → figure prog ≡ some q → IsFigure prog q

-- "Then no walk of n tokens and repair allowance r, its calls as in demand 3, needs more than 65 × Q × (n + r + 1) steps": whatever the tokens and the
-- answers are, and whatever stands behind the table
abbrev pub EnoughFor : List Rule → ℕ → Type 0
EnoughFor prog q =
    (more tokens answers : List ℕ) (allowance : ℕ)
    → Suffices prog (table prog ++ more) tokens answers allowance (65 * q * (length tokens + allowance + 1))

abbrev pub FigureEnough : Type 0
FigureEnough = (prog : List Rule) → Accepted prog → Finishing prog → (q : ℕ) → figure prog ≡ some q → EnoughFor prog q

-- the same as a bound: no list of calls does so many steps in all, whether its walk goes on, waits or has stopped
abbrev pub StepsFor : List Rule → ℕ → Type 0
StepsFor prog q =
    (more tokens answers : List ℕ) (allowance : ℕ)
    → StepsBelow (table prog ++ more) tokens answers allowance (65 * q * (length tokens + allowance + 1))

abbrev pub FigureSteps : Type 0
FigureSteps = (prog : List Rule) → Accepted prog → Finishing prog → (q : ℕ) → figure prog ≡ some q → StepsFor prog q

-- so of every number that bounds the quiet paths
abbrev pub BoundEnough : Type 0
BoundEnough = (prog : List Rule) → Accepted prog → Finishing prog → (q : ℕ) → Bounds (table prog) (RuleStart prog) q → EnoughFor prog q

-- "47 for Q above 4,294,967,295": where no number is computed, some quiet path has more
abbrev pub FigureLong : Type 0
FigureLong = (prog : List Rule) → Accepted prog → figure prog ≡ none → Long (table prog) (RuleStart prog) (suc most_figure)

-- there is one figure at most, and none where some path is so long: whoever finds the one or the other has found what is computed
pub record Settles (prog : List Rule) : Type 0 where
  pub figure_only : (q : ℕ) → IsFigure prog q → figure prog ≡ some q
  pub long_only : Long (table prog) (RuleStart prog) (suc most_figure) → figure prog ≡ none

abbrev pub FigureSettles : Type 0
FigureSettles = (prog : List Rule) → Accepted prog → Finishing prog → Settles prog
