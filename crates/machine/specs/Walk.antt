-- "A walk is going on, waits for an operation's answer, or has stopped for one reason; it holds its location, up to 64 return
-- locations, result and parameter, tokens read and answers used."; "The walk's record holds the allowance"
use Rattle.std.specs.Prelude.{List, [], ℕ, ◌-◌, length, drop}
use Rattle.events.specs.Events.{Reason, Io, answered}

pub data Phase : Type 0 where
  going waiting : Phase
  stopped : Reason → Phase

-- `returns` has the newest first; `io` has tokens read, answers used and the allowance left, and, within a call, the events that the call wrote
pub record Walk : Type 0 where
  pub phase : Phase
  pub location : ℕ
  pub returns : List ℕ
  pub result : ℕ
  pub parameter : ℕ
  pub io : Io

-- "A fresh walk goes on at 1, the rest 0 or empty."; "a fresh one's the whole of it"
unfoldable pub fresh : ℕ → Walk
fresh allowance = record { phase = going; location = 1; returns = []; result = 0; parameter = 0; io = record { read = 0; used = 0; allowance = allowance; events = [] } }

-- a walk with one thing changed

unfoldable pub moved : ℕ → Walk → Walk
moved l w = record { phase = w.phase; location = l; returns = w.returns; result = w.result; parameter = w.parameter; io = w.io }

unfoldable pub with_returns : List ℕ → Walk → Walk
with_returns rs w = record { phase = w.phase; location = w.location; returns = rs; result = w.result; parameter = w.parameter; io = w.io }

unfoldable pub with_result : ℕ → Walk → Walk
with_result v w = record { phase = w.phase; location = w.location; returns = w.returns; result = v; parameter = w.parameter; io = w.io }

unfoldable pub with_parameter : ℕ → Walk → Walk
with_parameter v w = record { phase = w.phase; location = w.location; returns = w.returns; result = w.result; parameter = v; io = w.io }

unfoldable pub with_io : Io → Walk → Walk
with_io io w = record { phase = w.phase; location = w.location; returns = w.returns; result = w.result; parameter = w.parameter; io = io }

-- "at any other stop the instruction changes only the reason"
unfoldable pub in_phase : Phase → Walk → Walk
in_phase p w = record { phase = p; location = w.location; returns = w.returns; result = w.result; parameter = w.parameter; io = w.io }

-- an answer is taken: it is the result, and one more is used
unfoldable pub with_answer : ℕ → Walk → Walk
with_answer v w = in_phase going (with_result v (with_io (answered w.io) w))

-- "more than 64 return locations are read as the first 64": the oldest stand last
unfoldable pub first64 : List ℕ → List ℕ
first64 rs = drop (length rs - 64) rs

-- a walk as a call begins with it, and as a call gives it back: no event of an earlier call
unfoldable pub at_rest : Walk → Walk
at_rest w = with_returns (first64 w.returns) (with_io (record { read = w.io.read; used = w.io.used; allowance = w.io.allowance; events = [] }) w)

-- all of this file computes where this is unfolded
unfoldable pub opened : Unit {0}
unfolding fresh moved with_returns with_result with_parameter with_io in_phase with_answer first64 at_rest
opened = tt
