-- A call of a walk: whole, "given all answers beforehand", or paused, given an answer or none.
use Rattle.std.specs.Prelude.{List, [], ℕ, zero, suc, ◌+◌, ◌-◌, ltb, if◌then◌else◌}
use Rattle.std.proofs.Math.Option.{Option, none, some}
use Rattle.events.specs.Events.{Event, Reason, reason_number, unanswered, outside, answer, wrote}
use Rattle.machine.specs.Walk.{Phase, going, waiting, stopped, Walk, with_io, in_phase, with_answer, at_rest}
use Rattle.machine.specs.Step.{Next, goes_outside, stops, goes, tells, asks, step}

-- how a walk is called
pub data Mode : Type 0 where
  whole : List ℕ → Mode
  paused : Option ℕ → Mode

-- what a call gives: its number, the walk, the events that it wrote, the steps that it did
pub record Called : Type 0 where
  pub number : ℕ
  pub walk : Walk
  pub events : List Event
  pub steps : ℕ

-- the number of a call that leaves the walk waiting; the papers leave it free
abbrev pub waits : ℕ
waits = 22

-- a call ends after n steps
unfoldable pub ends : ℕ → ℕ → Walk → Called
ends number n w = record { number = number; walk = at_rest w; events = w.io.events; steps = n }

-- a walk stops: "The stopping instruction counts as done"
unfoldable pub ends_for : Reason → ℕ → Walk → Called
ends_for r n w = ends (reason_number r) n (in_phase (stopped r) w)

unfoldable pub writing : Event → Walk → Walk
writing e w = with_io (wrote e w.io) w

-- one turn of a call: the call is over, or the walk goes on with so much room left for events
pub data Turn : Type 0 where
  over : Called → Turn
  further : ℕ → Walk → Turn

-- a whole walk takes the next answer: "34 answers used up, tested before the event is written"
unfoldable pub takes : Option ℕ → ℕ → ℕ → Walk → Event → Walk → Turn
takes none room n w e v = over (ends_for unanswered (n + 1) w)
takes (some x) room n w e v = further (room - 3) (with_answer x (writing e v))

-- "a paused one hands that operation out, its event being written before it waits"
unfoldable pub hands_out : Mode → ℕ → ℕ → Walk → Event → Walk → Turn
hands_out (whole answers) room n w e v = takes (answer answers w.io) room n w e v
hands_out (paused x) room n w e v = over (ends waits (n + 1) (in_phase waiting (writing e v)))

-- 37, then "35 fewer than three words left for an event", then the instruction's own; n steps are done before
unfoldable pub turn : Mode → ℕ → ℕ → Walk → Next → Turn
turn m room n w goes_outside = over (ends_for outside n w)
turn m room n w (stops r) = over (ends_for r (n + 1) w)
turn m room n w (goes v) = further room v
turn m room n w (tells e v) = if ltb room 3 then over (ends 35 n w) else further (room - 3) (writing e v)
turn m room n w (asks e v) = if ltb room 3 then over (ends 35 n w) else hands_out m room n w e v

-- a call that does nothing: the very walk, no event, no step
abbrev pub keeps : ℕ → Walk → Called
keeps number w = record { number = number; walk = w; events = []; steps = 0 }

module _ (T tokens : List ℕ) where
  -- "Tested in order: 36, 37, 35, then the instruction's own.": the walk w goes on, with so much budget and room, n steps are done
  unfoldable pub run : ℕ → Mode → ℕ → ℕ → Walk → Called
  run zero m room n w = ends 36 n w
  run (suc b) m room n w = elim (turn m room n w (step T tokens w)) [ over c ↦ c | further left v ↦ run b m left (n + 1) v ]

  -- a call that is refused: "walk and buffer unchanged; before all other tests"
  abbrev refuses : Walk → Called
  refuses w = keeps 21 w

  -- "21 an answer for a walk that isn't waiting, none for one that is, a waiting one given to a whole walk"; "such stops are final, and
  -- repeat, before the budget test, with nothing changed"; "taking an answer counts none and comes before the budget test"
  unfoldable pub call_in : Phase → Mode → ℕ → ℕ → Walk → Called
  call_in going (whole answers) budget room w = run budget (whole answers) room 0 (at_rest w)
  call_in going (paused none) budget room w = run budget (paused none) room 0 (at_rest w)
  call_in going (paused (some x)) budget room w = refuses w
  call_in waiting (whole answers) budget room w = refuses w
  call_in waiting (paused none) budget room w = refuses w
  call_in waiting (paused (some x)) budget room w = run budget (paused none) room 0 (with_answer x (at_rest w))
  call_in (stopped r) (whole answers) budget room w = keeps (reason_number r) w
  call_in (stopped r) (paused none) budget room w = keeps (reason_number r) w
  call_in (stopped r) (paused (some x)) budget room w = refuses w

  -- a call with a budget and an event buffer of so many words
  unfoldable pub call_walk : Mode → ℕ → ℕ → Walk → Called
  call_walk m budget room w = call_in w.phase m budget room w

-- all of this file computes where this is unfolded
unfoldable pub opened : Unit {0}
unfolding ends ends_for writing takes hands_out turn run call_in call_walk
opened = tt
