-- `meter::has_changed_call` meets its contract.
use native.Mathlib.Omega.{arith}
use Rattle.meter.proofs.has_changed_call.Goals as goal

pub calls_changed-requires : goal.calls_changed-requires
calls_changed-requires c = (c.requires.0, omega (arith, c.loop-l.auto.l, c.place-l.ensures), omega (arith, c.loop-l-test.true, c.upper-l-end.ensures), c.requires.2)
