-- `meter::is_clear` meets its contract: one number more each time.
use mathlib.Core.Bool.{true}
use mathlib.Core.Path.{◌≡◌}
use Rattle.meter.proofs.Store.{ClearUpto}
use Rattle.meter.proofs.is_clear.Given as goal

abbrev pub invariant-loop-j : goal.invariant-loop-j
invariant-loop-j l = l.clear ≡ true → ClearUpto l.rows l.i l.j
