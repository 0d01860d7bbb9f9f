-- Two rules gone through word by word, as the code does it.
use Rattle.std.specs.Prelude.{Bool, false, ◌||◌, List, ◌≡◌, ℕ, ◌*◌, ◌<◌, eqb, length, get_or, if◌then◌else◌}
use Rattle.base.specs.Common.{member}
use Rattle.carry.specs.Scan.{Expects, instruction, operand, label, labels_left, tables_after, is_call}
use Rattle.machine.specs.Lengths.{length_of}
use Rattle.carrier.specs.declared.Expects as code
use Rattle.carrier.specs.declared.Expects.TheVariants.{Instruction, Operand, Label}

-- what is expected, as the code holds it
abbrev pub meant : code.Expects → Expects
meant Instruction = instruction
meant (Operand i) = operand i
meant (Label n) = label n

-- the operand of a choice
unfoldable pub announces : Expects → Bool
announces instruction = false
announces (operand i) = eqb i 7 || eqb i 11
announces (label n) = false

-- the flags of the choice tables announced
pub record Announced (flags ts : List ℕ) : Type 0 where
  pub flag : (o : ℕ) → o < 4096 → get_or flags o 0 ≡ (if member o ts then 1 else 0)

-- what is expected behind the word w; t: a choice table stands here
unfoldable pub expects_by : Bool → Expects → ℕ → Expects
expects_by t instruction w = if t then labels_left (2 * w) else if eqb (length_of w) 2 then operand w else instruction
expects_by t (operand i) w = instruction
expects_by t (label n) w = labels_left n

-- a word of a call is compared by c, any other as it is
unfoldable pub words_meet : Bool → Expects → ℕ → ℕ → Bool
words_meet c e w v = if is_call e then c else eqb w v

-- what the flags become behind the word w at the offset o
pub record Tells (flags : List ℕ) (o : ℕ) (e : Expects) (w : ℕ) (flags' : List ℕ) : Type 0 where
  pub long : length flags' ≡ length flags
  pub told : (ts : List ℕ) → length flags ≡ 4096 → Announced flags ts → Announced flags' (tables_after ts o e w)
