-- `Walk::last` meets its contract, by what the step does.
use mathlib.Core.Path.{subst}
use Prim.Native.Nat.{◌*◌, ◌-◌, ◌≤◌}
use native.Mathlib.Omega.{arith}
use Rattle.machine.specs.Bytes.{count}
use Rattle.walker.specs.Shape.{ending_number, number_of}
use Rattle.walker.specs.Steps.{Ends, turn_of, took_of}
use Rattle.walker.proofs.Steps.{only-full, last_as}
use borrow.Enum.Refused.{opened}
use Rattle.walker.proofs.Walk.last.Goals as goal

pub overflow_mul-events : goal.overflow_mul-events
unfolding count
overflow_mul-events c = let k : 3 ≤ count c.args.out.now - 3 * c.args.events = subst (Ends _) c.in-Waits.is c.requires.0 in omega (arith, k, c.well_formed)

pub put_event-requires : goal.put_event-requires
put_event-requires c = let k : 3 ≤ count c.args.out.now - 3 * c.args.events = subst (Ends _) c.in-Waits.is c.requires.0 in omega (arith, k)

pub overflow_add-events : goal.overflow_add-events
unfolding count
overflow_add-events c = let k : 3 ≤ count c.args.out.now - 3 * c.args.events = subst (Ends _) c.in-Waits.is c.requires.0 in omega (arith, k, c.well_formed)

pub returns-in-Outside : goal.returns-in-Outside
unfolding turn_of took_of ending_number number_of
returns-in-Outside c = rw c.stopped.ensures (last_as _ _ _ _ c.in-Outside.is)

pub returns-in-Stop : goal.returns-in-Stop
unfolding turn_of took_of ending_number
returns-in-Stop c = rw c.stopped-in-Stop.ensures (last_as _ _ _ _ c.in-Stop.is)

pub returns-in-Waits : goal.returns-in-Waits
unfolding turn_of took_of ending_number
returns-in-Waits c = rw (c.ended.ensures, c.put_event.ensures, c.in_phase-walk.ensures, c.with_registers.ensures) (last_as _ _ _ _ c.in-Waits.is)

pub returns-in_default : goal.returns-in_default
unfolding turn_of took_of ending_number
returns-in_default c = rw c.ended-in_default.ensures (last_as _ _ _ _ (only-full (count c.args.out.now - 3 * c.args.events) c.args.x c.requires.0 (opened c.in_default.in_default-own.keys4)))
