-- What a call's number says of the walk that it gives back.
use Rattle.std.specs.Prelude.{ℕ}
use Rattle.events.specs.Events.{Reason, reason_number}
use Rattle.machine.specs.Call.{waits}
use Rattle.machine.specs.Walk.{Phase, going, waiting, stopped}

-- "Refusals apart, only 35 and 36 leave the walk going on"
pub data Reports : ℕ → Phase → Type 0 where
  -- 21: the walk is as it was
  refused : {p : Phase} → Reports 21 p
  -- 35 and 36
  full : Reports 35 going
  spent : Reports 36 going
  -- the operation is handed out
  handed_out : Reports waits waiting
  -- "0 is a return with nothing pending", 30 to 34, 37
  ended : (r : Reason) → Reports (reason_number r) (stopped r)
