-- "Fed the same answers, with budgets and buffers enough, the two agree in events, counts and end until the answers run out: there the whole
-- walk stops with 34, the paused one waits." The definitions of that claim; its proof is in proofs/.
use Rattle.std.specs.Prelude.{List, [], ◌∷◌, ◌++◌, ◌≡◌, ℕ, ◌+◌, ◌-◌, ◌*◌, length}
use Rattle.std.proofs.Math.Option.{none, some}
use Rattle.events.specs.Events.{Event, unanswered, answer}
use Rattle.machine.specs.Call.{paused, waits, Called, call_walk}
use Rattle.machine.specs.Step.{asks, step}
use Rattle.machine.specs.Walk.{Phase, going, waiting, stopped, Walk, moved, in_phase}

-- calls in a row as one: the number and the walk of the last, the events of both in order, the steps of both
unfoldable pub joined : Called → Called → Called
joined c d = record { number = d.number; walk = d.walk; events = c.events ++ d.events; steps = c.steps + d.steps }

-- the call had budget and buffer enough: it ended neither with 36 nor with 35
abbrev pub Enough : Called → Type 0
Enough c = (c.number ≡ 35 → ⊥) × (c.number ≡ 36 → ⊥)

module _ (T tokens : List ℕ) where
  -- paused calls of w in a row, each with a budget and a buffer of its own that are enough: the first without an answer, then one answer each
  -- time that the walk waits. Of the answers `given` those in the second list are left, and the calls are one as `joined`
  pub data Row (w : Walk) (given : List ℕ) : List ℕ → Called → Type 0 where
    first : (budget room : ℕ) → Enough (call_walk T tokens (paused none) budget room w)
        → Row w given given (call_walk T tokens (paused none) budget room w)
    next : {x : ℕ} {xs : List ℕ} {c : Called} → Row w given (x ∷ xs) c → c.walk.phase ≡ waiting
        → (budget room : ℕ) → Enough (call_walk T tokens (paused (some x)) budget room c.walk)
        → Row w given xs (joined c (call_walk T tokens (paused (some x)) budget room c.walk))

  -- the answers have run out at a choice operation: the whole walk has stopped before it, the paused one waits past it and has written its
  -- event; it counts as a step of both
  pub record RunOut (answers : List ℕ) (by_whole by_paused : Called) : Type 0 where
    pub before : Walk
    pub question : Event
    pub goes_on : before.phase ≡ going
    pub asked : step T tokens before ≡ asks question (moved (before.location + 1) before)
    pub used_up : answer answers before.io ≡ none
    pub whole_number : by_whole.number ≡ 34
    pub whole_walk : by_whole.walk ≡ in_phase (stopped unanswered) before
    pub paused_number : by_paused.number ≡ waits
    pub paused_walk : by_paused.walk ≡ in_phase waiting (moved (before.location + 1) before)
    pub events : by_paused.events ≡ by_whole.events ++ (question ∷ [])
    pub steps : by_paused.steps ≡ by_whole.steps

  -- a whole call of w beside paused calls of w
  pub data Agree (answers : List ℕ) (w : Walk) (by_whole by_paused : Called) : Type 0 where
    -- the same number, walk, events and steps; 34 only of a walk that had stopped for it before
    same : by_paused ≡ by_whole → (by_whole.number ≡ 34 → w.phase ≡ stopped unanswered) → Agree answers w by_whole by_paused
    run_out : w.phase ≡ going → RunOut answers by_whole by_paused → Agree answers w by_whole by_paused

-- Paused calls that share one budget and one buffer

-- calls go on only while the walk waits
unfoldable pub while_waiting : Phase → Called → Called → Called
while_waiting going c d = c
while_waiting waiting c d = d
while_waiting (stopped r) c d = c

module _ (T tokens : List ℕ) (budget room : ℕ) where
  -- one more paused call, with an answer and with the budget and the room that are left
  unfoldable pub answering : ℕ → Called → Called
  answering x c = joined c (call_walk T tokens (paused (some x)) (budget - c.steps) (room - 3 * length c.events) c.walk)

  -- after the calls c: these answers, one after the other
  unfoldable pub fed : List ℕ → Called → Called
  fed [] c = c
  fed (x ∷ xs) c = let d = fed xs (answering x c) in while_waiting c.walk.phase c d

  -- paused calls in a row: the first with no answer
  unfoldable pub in_aRow : List ℕ → Walk → Called
  in_aRow xs w = fed xs (call_walk T tokens (paused none) budget room w)
