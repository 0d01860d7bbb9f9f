-- Demand 3 for any bytes that begin with the words of an accepted text's table: the lent buffer up to the table's end, a longer buffer, the bytes
-- that `sst_load` left of the text's own file.
use Rattle.std.specs.Prelude.{Bool, true, List, ◌≡◌, ℕ, ◌+◌, ◌*◌, ◌<◌}
use Rattle.machine.specs.Bytes.{count}
use Rattle.processor.specs.Process.{understood, meaning}
use Rattle.program.specs.Program.{Rule}
use Rattle.bytewise.specs.AtEntries.{AgreesBytes, SufficesBytes, StepsBelowBytes}
use Rattle.bytewise.specs.ByteCalls.{Slice}

pub record OnTable (text : List ℕ) (verdict : Bool) (table : List ℕ) : Type 0 where
  pub prog : List Rule
  pub means : understood text ≡ meaning prog
  pub agrees : (tokens answers : List ℕ) → Slice tokens → Slice answers → (allowance : ℕ) → allowance < 65536 → AgreesBytes prog table tokens answers allowance
  pub finishes : verdict ≡ true → (number allowance : ℕ) → allowance < 65536 → (b : ℕ) × ((tokens answers : List ℕ) → Slice tokens → Slice answers → count tokens ≡ number
      → SufficesBytes prog table tokens answers allowance b)

-- the figure of the text, over the same bytes
pub record EnoughOn (text table : List ℕ) (q : ℕ) : Type 0 where
  pub prog : List Rule
  pub means : understood text ≡ meaning prog
  pub suffices : (tokens answers : List ℕ) → Slice tokens → Slice answers → (allowance : ℕ) → allowance < 65536
      → SufficesBytes prog table tokens answers allowance (65 * q * (count tokens + allowance + 1))
  pub steps : (tokens answers : List ℕ) → Slice tokens → Slice answers → (allowance : ℕ) → allowance < 65536
      → StepsBelowBytes table tokens answers allowance (65 * q * (count tokens + allowance + 1))
