-- "reachable in the sense of A.4" is defined twice, in crate loading from location 1 through calls, and in crate figure from a rule's own start "without entering calls";
-- where a label leads, in crates machine, figure and loading. What ties them together; the proofs are in proofs/Reached.antt and proofs/NoRepeats.antt.
use Rattle.std.specs.Prelude.{Bool, List, ◌++◌, ◌≡◌, ℕ, ◌+◌, ◌*◌, ◌<◌}
use Rattle.figure.specs.Figure.{label_at, Reached}
use Rattle.figure.specs.Promise.{RuleStart}
use Rattle.loading.specs.Reach.{Chooses, Reachable, Taken}
use Rattle.machine.specs.Decode.{fetch, call_rule, decode}
use Rattle.machine.specs.Step.{seek}
use Rattle.processor.specs.Process.{meaning, understood, accepted, process}
use Rattle.program.specs.Program.{Rule}
use Rattle.program.specs.Table.{table}

-- where a rule begins that can be reached: location 1, or what a call leads to that can be reached
pub data Begun (T : List ℕ) : ℕ → Type 0 where
  first : Begun T 1
  called : {l s : ℕ} → Reachable T l → decode T l ≡ call_rule s → Begun T s

-- no choice that can be reached has a label twice: "6 label repeated"
abbrev pub NoRepeats : List ℕ → Type 0
NoRepeats T = (l c n i j : ℕ) → Reachable T l → Chooses T l c n → i < j → j < n → fetch T (c + 2 * i + 1) ≡ fetch T (c + 2 * j + 1) → ⊥

-- the locations that can be reached are those that are reached from the start of a rule that can be, without entering calls; a label behind an equal one
-- is possible for crate loading and not for crate figure
pub record OneReach (T : List ℕ) : Type 0 where
  pub only_these : {s l : ℕ} → Begun T s → Reached T s l → Reachable T l
  pub all_these : NoRepeats T → {l : ℕ} → Reachable T l → (s : ℕ) × Begun T s × Reached T s l

abbrev pub ReachedAlike : Type 0
ReachedAlike = (T : List ℕ) → Taken T → OneReach T

-- figure's label is the walk's
abbrev pub LabelsAlike : Type 0
LabelsAlike = (T tokens : List ℕ) (v n l : ℕ) → label_at T v n l ≡ seek T tokens v n l

-- The tables of the processor

-- no label of a text that means a program is repeated, so none of its table's, with anything behind it
abbrev pub TextRepeatsNot : Type 0
TextRepeatsNot = (text : List ℕ) (prog : List Rule) (more : List ℕ) → understood text ≡ meaning prog → NoRepeats (table prog ++ more)

-- what can be reached from location 1 through calls is what is reached, without entering calls, from the start of a rule that can be: nothing else is asked
pub record SameReach (words : List ℕ) : Type 0 where
  pub all_these : {l : ℕ} → Reachable words l → (s : ℕ) × Begun words s × Reached words s l
  pub only_these : {s l : ℕ} → Begun words s → Reached words s l → Reachable words l

-- so it is in every table that the processor writes
abbrev pub TableReach : Type 0
TableReach = (text : List ℕ) (room : ℕ) (words : List ℕ) (verdict : Bool) → process text room ≡ accepted words verdict → SameReach words

-- and such a start is "that rule's own start", of a rule of the program
abbrev pub BegunRules : Type 0
BegunRules = (text : List ℕ) (prog : List Rule) (more : List ℕ) → understood text ≡ meaning prog → (s : ℕ) → Begun (table prog ++ more) s → RuleStart prog s
