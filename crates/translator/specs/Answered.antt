-- What the processor's code promises: its answer and every lent byte are those of the definition `process`, and the figure is that of `figure_of`.
use Rattle.std.specs.Prelude.{true, false, List, ◌≡◌, ℕ, ◌*◌, ◌≤◌, length, take, drop}
use Rattle.acceptance.specs.Shown.{Shows}
use Rattle.figure.specs.Told.{Told, untold}
use Rattle.frontend.specs.Resolving.{Ready}
use Rattle.machine.specs.Bytes.{count}
use Rattle.processor.specs.Process as means
use Rattle.processor.specs.Process.{Part, accepted, refused, meaning, understood, answer_for, lent_bytes}
use Rattle.program.specs.Program.{Rule}
use Rattle.translator.specs.Measured.{Tabled}
use Rattle.translator.specs.declared.Answer.{Answer}

-- the answer as the code's struct: number 0 for an accepted text, also with 47, "where the table is still given"
unfoldable pub answered : means.Answer → Told → Answer
answered (accepted words verdict) f = record { number = 0; start = 0; len = 0; words = length words; finishing = verdict; figure = f.figure; check = f.number }
answered (refused number at) f = record { number = number; start = at.start; len = at.size; words = 0; finishing = false; figure = f.figure; check = f.number }

-- the code's answer and the lent bytes are those of a, the figure is that of f
pub record Settles (a : means.Answer) (f : Told) (old new : List ℕ) (r : Answer) : Type 0 where
  pub answer : r ≡ answered a f
  pub lent : new ≡ lent_bytes a old

-- the answer for the program in the buffers but for its figure, whatever text of that size it was read from
abbrev pub Finishes : ℕ → List ℕ → List ℕ → List ℕ → ℕ → ℕ → List ℕ → List ℕ → Answer → Type 0
Finishes size cells starts sorts rules filled old new r = (text : List ℕ) (prog : List Rule) → length text ≡ size → Ready cells starts sorts rules filled prog
    → Settles (answer_for text (count old) (meaning prog)) untold old new r

-- the table of a finishing program stands in front of the lent bytes, and its rules' starts in front of the places
pub record Stands (new places : List ℕ) (words rules : ℕ) (prog : List Rule) : Type 0 where
  pub short : words ≤ 4096
  pub inside : 2 * words ≤ length new
  pub room : rules ≤ length places
  pub tabled : Tabled (take (2 * words) new) (take rules places) prog

-- that of a finishing text
pub record Placed (text new places : List ℕ) (words rules : ℕ) : Type 0 where
  pub prog : List Rule
  pub means : understood text ≡ meaning prog
  pub stands : Stands new places words rules prog

-- the answer for a text that is read, but for its figure, and what the figure is found from
pub record Translates (text old new places : List ℕ) (r : Answer) (rules : ℕ) : Type 0 where
  pub settles : Settles (means.process text (count old)) untold old new r
  pub placed : r.finishing ≡ true → Placed text new places r.words rules

-- "The word at fault is handed back as a part of the author's text"
unfoldable pub fault_word : List ℕ → Answer → List ℕ
fault_word text r = take r.len (drop r.start text)

-- of the code's answer for a text that is refused it is a word of the text, the one that the number shows; or nothing, for over-long text and 20
abbrev pub FaultShown : Type 0
FaultShown =
    (text : List ℕ) (room number : ℕ) (at : Part) (f : Told) → means.process text room ≡ refused number at
    → Shows text number (fault_word text (answered (refused number at) f))

-- all of this file computes where this is unfolded
unfoldable pub opened : Unit {0}
unfolding answered fault_word
opened = tt
