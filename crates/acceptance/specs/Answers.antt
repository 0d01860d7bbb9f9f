-- What the processor's answers hold to: what an accepted table is, and which numbers a refusal can have.
use Rattle.std.specs.Prelude.{Bool, List, ◌⊎◌, ◌≡◌, ℕ, ◌<◌, ◌≤◌, length, get_or}
use Rattle.finishing.specs.Test.{finishing}
use Rattle.processor.specs.Process.{meaning, understood}
use Rattle.program.specs.Accepted.{Accepted}
use Rattle.program.specs.Program.{Rule}
use Rattle.program.specs.Table.{place, table}

-- what an accepted table is
pub record TableOf (text : List ℕ) (room : ℕ) (words : List ℕ) (verdict : Bool) : Type 0 where
  pub prog : List Rule
  pub means : understood text ≡ meaning prog
  pub accepts : Accepted prog
  pub words_are : words ≡ table prog
  pub verdict_is : verdict ≡ finishing prog
  pub fits : length words ≤ room
  pub within_4096 : length words ≤ 4096
  -- "Words of 16 bits"
  pub small : (i : ℕ) → get_or words i 0 < 65536
  -- every rule stands at a location of the table
  pub from : (r : ℕ) → 1 ≤ place 1 prog r
  pub inside : (r : ℕ) → r < length prog → place 1 prog r ≤ length words

-- the numbers that the rules' author can cause: 1 to 9, and 45 of operators
abbrev pub Fault : ℕ → Type 0
Fault n = ((1 ≤ n) × (n ≤ 9)) ⊎ (n ≡ 45)

-- the numbers of refusals: those and "20 the table passes the lent buffer or 4,096 words"; so never 0, which the code answers for a text that is
-- accepted
abbrev pub RefusalNumber : ℕ → Type 0
RefusalNumber n = Fault n ⊎ (n ≡ 20)
