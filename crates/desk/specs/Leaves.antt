-- What the entries of figures leave with their caller, as one value.
use Rattle.std.specs.Prelude.{List, ℕ}
use Rattle.figures.specs.Form.{Outcome, Report}

-- number, the bytes of figures and event buffer, events written, steps done
abbrev pub adds : ℕ → List ℕ → List ℕ → ℕ → ℕ → Outcome
adds number figures buffer written steps = record { number = number; figures = figures; buffer = buffer; events = written; steps = steps }

abbrev pub reports : ℕ → ℕ → ℕ → ℕ → ℕ → ℕ → Report
reports number books total covered mean rest = record { number = number; books = books; total = total; covered = covered; mean = mean; rest = rest }
