-- "Each step takes the walk and gives the walk back": the walk's methods, one step, and steps repeated. A call's loop does the same (`Repeats`).
use Rattle.std.specs.Prelude.{Bool, true, false, List, [], ◌≡◌, ℕ, zero, suc, ◌+◌, ◌*◌, ◌-◌, ◌<◌, ◌≤◌, eqb, leb, get_or, if◌then◌else◌, Some, None}
use Rattle.machine.specs.Bytes.{count, word_at}
use Rattle.walker.specs.Shape.{size, put_event, read_one, answered_one, popped_to, pushed, first64, ending_number, number_of, step_of, Outcome, whole_of, paused_of}
use Rattle.walker.specs.declared.Called.{Called}
use Rattle.walker.specs.declared.Ending.{Ending}
use Rattle.walker.specs.declared.Next.{Next}
use Rattle.walker.specs.declared.Phase.{Phase}
use Rattle.walker.specs.declared.Phase.TheVariants.{Going, Waiting, Stopped}
use Rattle.walker.specs.declared.Reason.{Reason}
use Rattle.walker.specs.declared.Registers.{Registers}
use Rattle.walker.specs.declared.Said.{Said}
use Rattle.walker.specs.declared.Stepped.{Stepped}
use Rattle.walker.specs.declared.Walk.{Walk}

-- The walk's methods; `pushed` stands with the shapes

abbrev pub with_at : Walk → Registers → Walk
with_at w r = record { phase = w.phase; at = r; returns = w.returns }

abbrev pub in_phase : Walk → Phase → Walk
in_phase w p = record { phase = p; at = w.at; returns = w.returns }

-- a token read
abbrev pub token_read : Walk → Walk
token_read w = with_at w (read_one w.at)

-- back behind the newest call
abbrev pub returned : Walk → Walk
returned w = with_at w (popped_to w.at (get_or w.returns (w.at.depth - 1) 0))

-- the answer taken: the walk goes on
abbrev pub answered : Walk → ℕ → Walk
answered w x = in_phase (with_at w (answered_one w.at x)) Going

-- "more than 64 return locations are read as the first 64"
abbrev pub as_read : Walk → Walk
as_read w = with_at w (first64 w.at)

-- One step

abbrev pub says : Walk → Said → Stepped
says w x = record { walk = w; said = x }

-- a return location is pushed only below 64
abbrev pub Holds : Next → Type 0
Holds Next.Full = Unit {0}
Holds Next.Outside = Unit {0}
Holds (Next.Stop x) = Unit {0}
Holds (Next.On r) = Unit {0}
Holds (Next.Tells r e) = Unit {0}
Holds (Next.Push r l) = r.depth < 64
Holds (Next.Waits r e) = Unit {0}

-- what an instruction does to the walk, and what the call is told of it; 35 and 37 "do nothing and count nothing"
unfoldable pub took_of : Walk → Next → Stepped
took_of w Next.Full = says w (Said.Undone Ending.Full)
took_of w Next.Outside = says (in_phase w (Stopped Reason.Outside)) (Said.Undone (Ending.Stopped Reason.Outside))
took_of w (Next.Stop x) = says (in_phase w (Stopped x)) (Said.Stops x)
took_of w (Next.On r) = says (with_at w r) Said.On
took_of w (Next.Tells r e) = says (with_at w r) (Said.Tells e)
took_of w (Next.Push r l) = says (pushed (with_at w r) l) Said.On
took_of w (Next.Waits r e) = says (in_phase (with_at w r) Waiting) (Said.Hands e)

-- the number of the instruction at l, or 0 outside the table
unfoldable pub number_at : List ℕ → ℕ → ℕ
number_at t l = if eqb l 0 then 0 else if leb l (size t) then word_at t (l - 1) else 0

-- a step of a walk that goes on: t the table, k the tokens, a the answers
abbrev pub next_of : List ℕ → List ℕ → List ℕ → ℕ → Bool → Walk → Stepped
next_of t k a room paused w = took_of w (step_of w.returns t k a room paused w.at)

-- a step of any walk: one that waits or has stopped stays as it is
unfoldable pub walk_step_of : List ℕ → List ℕ → List ℕ → ℕ → Bool → Walk → Phase → Stepped
walk_step_of t k a room paused w Going = next_of t k a room paused (as_read w)
walk_step_of t k a room paused w Waiting = says w (Said.Undone Ending.Refused)
walk_step_of t k a room paused w (Stopped x) = says w (Said.Undone (Ending.Stopped x))

-- Steps repeated

abbrev pub outcome : Walk → List ℕ → ℕ → ℕ → ℕ → Outcome
outcome w o events steps number = record { walk = w; events = events; steps = steps; number = number; out = o }

-- what a call's code gives; the event buffer's bytes stand with the buffer
abbrev pub called : Walk → ℕ → ℕ → Ending → Called
called w events steps ending = record { walk = w; events = events; steps = steps; ending = ending }

-- after a step: further, or the call's end; e events are written to o, d steps are done
unfoldable pub turn_of : (Walk → List ℕ → ℕ → ℕ → Outcome) → Stepped → List ℕ → ℕ → ℕ → Outcome
turn_of further s o e d =
    elim s.said [
      | Said.On ↦ further s.walk o e (d + 1)
      | Said.Tells x ↦ further s.walk (put_event o (3 * e) x) (e + 1) (d + 1)
      | Said.Undone m ↦ outcome s.walk o e d (ending_number m)
      | Said.Stops x ↦ outcome s.walk o e (d + 1) (number_of x)
      | Said.Hands x ↦ outcome s.walk (put_event o (3 * e) x) (e + 1) (d + 1) 22
    ]

-- a step that does not go on, with room for so many words of events: an operation is handed out only where an event's three are free
abbrev pub Ends : ℕ → Next → Type 0
Ends room Next.Full = Unit {0}
Ends room Next.Outside = Unit {0}
Ends room (Next.Stop x) = Unit {0}
Ends room (Next.On r) = ⊥
Ends room (Next.Tells r e) = ⊥
Ends room (Next.Push r l) = ⊥
Ends room (Next.Waits r e) = 3 ≤ room

-- a call that ends with this step; after one that goes on, its budget is spent
abbrev pub last_of : Stepped → List ℕ → ℕ → ℕ → Outcome
last_of s o e d = turn_of (λ w u f g. outcome w u f g 36) s o e d

-- up to n steps
unfoldable pub steps_of : List ℕ → List ℕ → List ℕ → Bool → ℕ → Walk → List ℕ → ℕ → ℕ → Outcome
steps_of t k a paused zero w o e d = outcome w o e d 36
steps_of t k a paused (suc n) w o e d = turn_of (steps_of t k a paused n) (walk_step_of t k a (count o - 3 * e) paused w w.phase) o e d

-- a call of a walk that goes on, or that is given the answer it waits for, is its steps repeated
pub record Repeats (t k : List ℕ) (n : ℕ) (w : Walk) (o : List ℕ) : Type 0 where
  pub whole : (a : List ℕ) → w.phase ≡ Going → whole_of t k a n w o w.phase ≡ steps_of t k a false n (as_read w) o 0 0
  pub paused : w.phase ≡ Going → paused_of t k None n w o w.phase ≡ steps_of t k [] true n (as_read w) o 0 0
  pub answer : (x : ℕ) → w.phase ≡ Waiting → paused_of t k (Some x) n w o w.phase ≡ steps_of t k [] true n (answered (as_read w) x) o 0 0
