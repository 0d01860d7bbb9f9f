-- The walker's structs and enums as the machine's definitions have them.
use Rattle.std.specs.Prelude.{List, [], reverse, ℕ, ◌%◌, take}
use Rattle.events.specs.Events as events
use Rattle.machine.specs.Walk as machine
use Rattle.walker.specs.declared.Event.{Event}
use Rattle.walker.specs.declared.Event.TheVariants.{Output, Repair, Plain, With}
use Rattle.walker.specs.declared.Phase.{Phase}
use Rattle.walker.specs.declared.Phase.TheVariants.{Going, Waiting, Stopped}
use Rattle.walker.specs.declared.Reason.{Reason}
use Rattle.walker.specs.declared.Reason.TheVariants.{Finished, Differs, Missing, Unlabelled, Deep, Unanswered, Outside}
use Rattle.walker.specs.declared.Registers.{Registers}
use Rattle.walker.specs.declared.Walk.{Walk}

unfoldable pub reason_of : Reason → events.Reason
reason_of Finished = events.finished
reason_of Differs = events.differs
reason_of Missing = events.missing
reason_of Unlabelled = events.unlabelled
reason_of Deep = events.deep
reason_of Unanswered = events.unanswered
reason_of Outside = events.outside

unfoldable pub phase_of : Phase → machine.Phase
phase_of Going = machine.going
phase_of Waiting = machine.waiting
phase_of (Stopped r) = machine.stopped (reason_of r)

unfoldable pub event_of : Event → events.Event
event_of (Output t) = events.output t
event_of (Event.Error n) = events.signal n
event_of (Repair t) = events.repair t
event_of (Plain op) = events.operation op
event_of (With op v) = events.operation_with op v

-- registers and return locations in a phase, words by their 16 bits: "more than 64 return locations are read as the first 64", the array having no more
unfoldable pub walk_in : machine.Phase → Registers → List ℕ → machine.Walk
walk_in ph r returns = record {
  phase = ph;
  location = r.location;
  returns = reverse (take r.depth returns);
  result = r.result % 65536;
  parameter = r.parameter % 65536;
  io = record { read = r.read; used = r.used; allowance = r.allowance % 65536; events = [] };
}

unfoldable pub walk_of : Walk → machine.Walk
walk_of w = walk_in (phase_of w.phase) w.at w.returns

-- all of this file computes where this is unfolded
unfoldable pub opened : Unit {0}
unfolding reason_of phase_of event_of walk_in walk_of
opened = tt
