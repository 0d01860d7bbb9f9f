-- "Then no walk of n tokens and repair allowance r, its calls as in demand 3, needs more than 65 × Q × (n + r + 1) steps", as a caller from C meets it: for the
-- `*figure` that `sst_process` told him, and calls of `sst_whole` and `sst_paused` over the very bytes that it left.
use Rattle.std.specs.Prelude.{List, ◌≡◌, ℕ, ◌+◌, ◌*◌, ◌<◌}
use Rattle.firmware.specs.Processing.{Numbers}
use Rattle.machine.specs.Bytes.{count}
use Rattle.processor.specs.Process.{understood, meaning}
use Rattle.program.specs.Program.{Rule}
use Rattle.bytewise.specs.AtEntries.{SufficesBytes, StepsBelowBytes, Processed}
use Rattle.bytewise.specs.ByteCalls.{Slice}

-- what a caller has whom it tells a figure: the text was accepted with the verdict "finishing", and that budget suffices, whatever the tokens and the answers are
pub record EnoughSteps (text table : List ℕ) (x : Numbers) : Type 0 where
  pub accepted : x.number ≡ 0
  pub finishing : x.finishing ≡ 1
  pub prog : List Rule
  pub means : understood text ≡ meaning prog
  pub suffices : (tokens answers : List ℕ) → Slice tokens → Slice answers → (allowance : ℕ) → allowance < 65536
      → SufficesBytes prog table tokens answers allowance (65 * x.figure * (count tokens + allowance + 1))
  -- as a bound: no list of calls does so many steps in all
  pub steps : (tokens answers : List ℕ) → Slice tokens → Slice answers → (allowance : ℕ) → allowance < 65536
      → StepsBelowBytes table tokens answers allowance (65 * x.figure * (count tokens + allowance + 1))

-- where `*figure` is not 0
abbrev pub FigureAtEntries : Type 0
FigureAtEntries = (text lent table : List ℕ) (x : Numbers) → Processed text lent table x → 0 < x.figure → EnoughSteps text table x
