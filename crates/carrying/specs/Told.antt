-- What carrying tells, as the code holds it.
use Rattle.std.specs.Prelude.{Bool, List, ◌≡◌, ℕ, ◌<◌, eqb, if◌then◌else◌}
use Rattle.carrier.specs.Held.{Laid}
use Rattle.carrier.specs.Sections.{HasRules}
use Rattle.carrier.specs.Walks.{Stands}
use Rattle.carry.specs.Carry.{section_words, source_of}
use Rattle.carry.specs.Texts.{Answer, Outcome, told}
use Rattle.machine.specs.Form.{walk_bytes}
use Rattle.processor.specs.Process.{accepted, process}
use Rattle.sources.specs.Prepared.{Reads}
use Rattle.walker.specs.View as view
use Rattle.words.specs.Words.{words}
use Rattle.carrying.specs.declared.Carried.{Carried}

-- a text that is accepted, with its table and its rules' rows
pub record Ready (text table sheet : List ℕ) : Type 0 where
  pub stands : Stands text sheet table (source_of text)
  pub laid : Laid sheet table
  pub has_rules : HasRules (words text)
  pub sections : (source_of text).sections ≡ section_words (words text)

-- the processor accepts the text with a lent table of 4,096 words, and its table and rows are there
pub record Accepts (text table sheet : List ℕ) : Type 0 where
  pub words : List ℕ
  pub verdict : Bool
  pub answers : process text 4096 ≡ accepted words verdict
  pub as_ready : Ready text table sheet

-- the text was read with no fault; its rules are in the cells
pub record IsRead (text cells sorts sheet : List ℕ) : Type 0 where
  pub number : ℕ
  pub start : ℕ
  pub len : ℕ
  pub faultless : number ≡ 0
  pub reads : Reads text cells sorts sheet number start len

-- what stands in the caller's numbers and bytes after the call: "the walk comes back unchanged" with every number but 0
unfoldable pub outcome_of : Carried → List ℕ → Outcome
outcome_of r walk = record {
  number = r.number;
  text = r.text;
  start = r.start;
  size = r.len;
  walk = if eqb r.number 0 then walk_bytes (view.walk_of r.walk) else walk;
}

-- the code's answer is this one, whatever the bytes were; a carried walk can be written
pub record Tells (r : Carried) (answer : Answer) : Type 0 where
  pub location : r.number ≡ 0 → r.walk.at.location < 65536
  pub is : (walk : List ℕ) → outcome_of r walk ≡ told answer walk

-- the entry's result and numbers, and the walk's bytes
unfoldable pub leaves : ℕ → ℕ → ℕ → ℕ → List ℕ → Outcome
leaves number text start size walk = record { number = number; text = text; start = start; size = size; walk = walk }
