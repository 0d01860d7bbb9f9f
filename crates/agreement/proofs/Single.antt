-- The walk over a table as single steps, with no budget, no buffer and no pause: what every list of calls comes to.
use mathlib.Core.List.{List}
use mathlib.Core.Option.{Option, none, some}
use Prim.Native.Nat.{ℕ, zero, suc}
use lib.ListN.{get_elem?}
use Rattle.events.specs.Events.{Event, unanswered, outside, choices}
use Rattle.machine.specs.Call.{writing}
use Rattle.machine.specs.Step.{Next, goes_outside, stops, goes, tells, asks, step}
use Rattle.machine.specs.Walk.{Phase, going, waiting, stopped, Walk, in_phase, with_answer}

-- an operation asks: the next answer is the one after as many as there are choice operations in the events
unfoldable pub taking : Option ℕ → Event → Walk → Walk → Walk
taking none e v w = in_phase (stopped unanswered) w
taking (some x) e v w = with_answer x (writing e v)

module _ (T tokens answers : List ℕ) where
  unfoldable pub done : Next → Walk → Walk
  done goes_outside w = in_phase (stopped outside) w
  done (stops r) w = in_phase (stopped r) w
  done (goes v) w = v
  done (tells e v) w = writing e v
  done (asks e v) w = taking (get_elem? answers (choices w.io.events)) e v w

  -- a walk that waits or has stopped stays as it is
  unfoldable pub one_in : Phase → Walk → Walk
  one_in going w = done (step T tokens w) w
  one_in waiting w = w
  one_in (stopped r) w = w

  unfoldable pub one : Walk → Walk
  one w = one_in w.phase w

  unfoldable pub runs : ℕ → Walk → Walk
  runs zero w = w
  runs (suc n) w = runs n (one w)
