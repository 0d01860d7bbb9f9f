-- What both walks, over a table and over the rules, read and write, and why they stop.
use Rattle.std.specs.Prelude.{Bool, false, List, [], ◌∷◌, ◌++◌, ℕ, ◌+◌, ◌-◌, ◌^◌, min, eqb, leb, ltb, if◌then◌else◌}
use Rattle.std.proofs.Math.Option.{Option, none, some}
use Rattle.std.proofs.Math.ListN.{get_elem?}

-- the decoded event: an output token, an error, a repaired token, an operation's instruction number, one with its parameter
pub data Event : Type 0 where
  output signal repair operation : ℕ → Event
  operation_with : ℕ → ℕ → Event

-- "An event is three words: 1, output token, 0; 2, error, 0; 3, the operation's instruction number, its parameter or 0."; of a
-- repair "the event 4, required token, 0"
unfoldable pub event_words : Event → List ℕ
event_words (output t) = 1 ∷ t ∷ 0 ∷ []
event_words (signal n) = 2 ∷ n ∷ 0 ∷ []
event_words (repair t) = 4 ∷ t ∷ 0 ∷ []
event_words (operation op) = 3 ∷ op ∷ 0 ∷ []
event_words (operation_with op v) = 3 ∷ op ∷ v ∷ []

-- why a walk has stopped for good
pub data Reason : Type 0 where
  finished differs missing unlabelled deep unanswered outside : Reason

-- "0 is a return with nothing pending", "30 token differs from the one required, or none; 31 `?` with none; 32 endChoice; 33 a
-- call with 64 pending", "34 answers used up", "37 fetch, operand, choice table or target outside the table"
unfoldable pub reason_number : Reason → ℕ
reason_number finished = 0
reason_number differs = 30
reason_number missing = 31
reason_number unlabelled = 32
reason_number deep = 33
reason_number unanswered = 34
reason_number outside = 37

-- tokens read, answers used, what is left of the repair allowance, events written
pub record Io : Type 0 where
  pub read : ℕ
  pub used : ℕ
  pub allowance : ℕ
  pub events : List Event

-- an operation's event, with its instruction number; "choice operations from 768"
unfoldable pub is_choice : Event → Bool
is_choice (output t) = false
is_choice (signal n) = false
is_choice (repair t) = false
is_choice (operation op) = leb 768 op
is_choice (operation_with op v) = leb 768 op

-- how many choice operations stand in the events
unfoldable pub choices : List Event → ℕ
choices [] = 0
choices (e ∷ es) = (if is_choice e then 1 else 0) + choices es

-- "The present token is the first unread one, or none past the end."
unfoldable pub present : List ℕ → Io → Option ℕ
present tokens io = get_elem? tokens io.read

-- the answer that a walk over a table takes next, which knows only how many are used; none where all are used up
unfoldable pub answer : List ℕ → Io → Option ℕ
answer answers io = get_elem? answers io.used

-- "A match, `?` or a labelled alternative of an input choice reads one."
unfoldable pub took : Io → Io
took io = record { read = io.read + 1; used = io.used; allowance = io.allowance; events = io.events }

unfoldable pub wrote : Event → Io → Io
wrote e io = record { read = io.read; used = io.used; allowance = io.allowance; events = io.events ++ (e ∷ []) }

-- "answers used, 64 bits wide, stops at its greatest"
unfoldable pub answered : Io → Io
answered io = record { read = io.read; used = min (io.used + 1) (2 ^ 64 - 1); allowance = io.allowance; events = io.events }

-- "allowance is left"
unfoldable pub mends : Io → Bool
mends io = ltb 0 io.allowance

-- "the allowance falls by one"; "A repaired token isn't counted as read."
unfoldable pub spent : Io → Io
spent io = record { read = io.read; used = io.used; allowance = io.allowance - 1; events = io.events }

-- "the event 4, required token, 0 is written, the allowance falls by one"
unfoldable pub repaired : ℕ → Io → Io
repaired t io = wrote (repair t) (spent io)

-- the token is the one required
unfoldable pub is : ℕ → Option ℕ → Bool
is t none = false
is t (some u) = eqb t u

-- all of this file computes where this is unfolded
unfoldable pub opened : Unit {0}
unfolding event_words reason_number is_choice choices present answer took wrote answered mends spent repaired is
opened = tt
