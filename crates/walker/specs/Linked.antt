-- What it means that the code's definitions (Shape) give what the machine's give: the statement of `whole-call` and `paused-call` (proofs/Link.antt).
use Rattle.std.specs.Prelude.{List, ◌≡◌, ℕ, ◌<◌, length, get_or, Option, Some, None}
use Rattle.std.proofs.Math.Option as machine
use Rattle.std.proofs.Math.Option.{none, some}
use Rattle.machine.specs.Bytes.{bytes_of, over}
use Rattle.machine.specs.Call.{Called}
use Rattle.machine.specs.Form.{events_words}
use Rattle.walker.specs.Shape.{Outcome}
use Rattle.walker.specs.View.{walk_of}

-- each number of the list is a byte
abbrev pub Bytes : List ℕ → Type 0
Bytes s = (i : ℕ) → get_or s i 0 < 256

-- the answer of a paused call, or none
abbrev pub handed : Option ℕ → machine.Option ℕ
handed None = none
handed (Some x) = some x

-- what a call of the code's definitions gives is what the machine's gives, with s the event buffer before it
pub record Agrees (s : List ℕ) (x : Outcome) (c : Called) : Type 0 where
  pub number : x.number ≡ c.number
  pub steps : x.steps ≡ c.steps
  pub events : x.events ≡ length c.events
  pub walk : walk_of x.walk ≡ c.walk
  pub out : x.out ≡ over (bytes_of (events_words c.events)) s
