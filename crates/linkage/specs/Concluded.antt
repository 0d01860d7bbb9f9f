-- The answer for a program whose rules' cells stand in the buffers: table, verdict and figure, or 20.
use Rattle.std.specs.Prelude.{List, ◌≡◌, ℕ, length}
use Rattle.figure.specs.Told.{told_if}
use Rattle.frontend.specs.Resolving.{Ready}
use Rattle.machine.specs.Bytes.{count}
use Rattle.processor.specs.Process.{meaning, answer_for}
use Rattle.program.specs.Program.{Rule}
use Rattle.translator.specs.Answered.{Settles}
use Rattle.translator.specs.declared.Answer.{Answer}

-- they are those of some program
pub record IsReady (cells starts sorts : List ℕ) (rules filled : ℕ) : Type 0 where
  pub prog : List Rule
  pub ready : Ready cells starts sorts rules filled prog

-- as the processor answers for it, whatever text of that size it was read from
abbrev pub Concludes : ℕ → List ℕ → List ℕ → List ℕ → ℕ → ℕ → List ℕ → List ℕ → Answer → Type 0
Concludes size cells starts sorts rules filled old new r =
    (text : List ℕ) (prog : List Rule) → length text ≡ size → Ready cells starts sorts rules filled prog
    → Settles (answer_for text (count old) (meaning prog)) (told_if (answer_for text (count old) (meaning prog)) prog) old new r
