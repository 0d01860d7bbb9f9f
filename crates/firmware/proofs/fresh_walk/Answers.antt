-- `firmware::fresh_walk` meets its contract: both sides compute, but for the allowance.
use mathlib.Core.Path.{ap}
use native.Mathlib.Omega.{arith}
use Rattle.machine.specs.Walk.{fresh, opened as walk-opened}
use Rattle.walker.specs.View.{opened as view-opened}
use Rattle.firmware.proofs.fresh_walk.Goals as goal

pub returns : goal.returns
unfolding view-opened walk-opened
returns c = (rw c.fresh.ensures (ap fresh (omega arith)), rw c.fresh.ensures (omega arith))
