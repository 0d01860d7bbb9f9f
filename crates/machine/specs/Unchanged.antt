-- A call that changes nothing: "walk and buffer unchanged" for 21; "such stops are final, and repeat, before the budget test, with nothing changed".
use Rattle.std.specs.Prelude.{List, [], ◌≡◌, ℕ}
use Rattle.machine.specs.Call.{Called}
use Rattle.machine.specs.Form.{Outcome}
use Rattle.machine.specs.Walk.{Walk}

-- the call gives the walk back as it was, with no event and no step
pub record Same (w : Walk) (c : Called) : Type 0 where
  pub walk : c.walk ≡ w
  pub events : c.events ≡ []
  pub steps : c.steps ≡ 0

-- the same over bytes: nothing that is lent changes
pub record Unchanged (walk buffer : List ℕ) (o : Outcome) : Type 0 where
  pub walk_bytes_lem : o.walk ≡ walk
  pub buffer_bytes : o.buffer ≡ buffer
  pub no_event : o.events ≡ 0
  pub no_step : o.steps ≡ 0
