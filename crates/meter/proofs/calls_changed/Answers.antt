-- `meter::calls_changed` meets its contract.
use native.Mathlib.Omega.{arith}
use Rattle.meter.proofs.calls_changed.Goals as goal

pub overflow_add-l : goal.overflow_add-l
overflow_add-l c = omega (arith, c.requires.2, c.requires.3)
