-- Carrying between texts and over bytes: what the entry answers, and in which order it tests.
use Rattle.std.specs.Prelude.{List, ℕ}
use Rattle.std.proofs.Math.Option.{Option, none, some}
use Rattle.carry.specs.Carry.{Carried, carried, stays, carry, source_of}
use Rattle.machine.specs.Form.{walk_of, walk_bytes}
use Rattle.machine.specs.Walk.{Walk}
use Rattle.processor.specs.Process as processor
use Rattle.processor.specs.Process.{Part, process}

-- what the call answers: the carried walk; 51 or 52; or the number of a text that is not accepted, the text (1 the old one, 2 the new one) and the part at fault
pub data Answer : Type 0 where
  goes : Walk → Answer
  differs : ℕ → Answer
  refused : ℕ → ℕ → Part → Answer

unfoldable pub answer_of : Carried → Answer
answer_of (carried w) = goes w
answer_of (stays n) = differs n

-- "between accepted programs": a text that is not accepted with a lent table of 4,096 words, the most that a table has, gives its own number, the old text first
unfoldable pub between : processor.Answer → processor.Answer → Carried → Answer
between (processor.refused n at) q c = refused n 1 at
between (processor.accepted words verdict) (processor.refused n at) c = refused n 2 at
between (processor.accepted words verdict) (processor.accepted words' verdict') c = answer_of c

unfoldable pub carry_texts : List ℕ → List ℕ → Walk → Answer
carry_texts old new w = between (process old 4096) (process new 4096) (carry (source_of old) (source_of new) w)

-- Bytes

-- the number, the text and its part at fault (0 where no text is at fault), and the walk's bytes
pub record Outcome : Type 0 where
  pub number : ℕ
  pub text : ℕ
  pub start : ℕ
  pub size : ℕ
  pub walk : List ℕ

-- "the walk comes back unchanged"
unfoldable pub told : Answer → List ℕ → Outcome
told (goes w) walk = record { number = 0; text = 0; start = 0; size = 0; walk = walk_bytes w }
told (differs n) walk = record { number = n; text = 0; start = 0; size = 0; walk = walk }
told (refused n t at) walk = record { number = n; text = t; start = at.start; size = at.size; walk = walk }

-- "21 .. bytes that no walk is written as by the layout in docs/ (walk and buffer unchanged; before all other tests)"
unfoldable pub outcome : Option Walk → List ℕ → (Walk → Answer) → Outcome
outcome none walk f = record { number = 21; text = 0; start = 0; size = 0; walk = walk }
outcome (some w) walk f = told (f w) walk

unfoldable pub carry_bytes : List ℕ → List ℕ → List ℕ → Outcome
carry_bytes old new walk = outcome (walk_of walk) walk (carry_texts old new)

-- all of this file computes where this is unfolded
unfoldable pub opened : Unit {0}
unfolding answer_of between carry_texts told outcome carry_bytes
opened = tt
