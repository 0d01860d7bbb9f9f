-- `declarer::slot_of` meets its contract.
use mathlib.Core.Path.{◌≡◌}
use Prim.Native.Nat.{◌-◌}
use Rattle.declarer.specs.Operators.{slot_from}
use Rattle.declarer.proofs.slot_of.Given as goal

abbrev pub invariant-loop-i : goal.invariant-loop-i
invariant-loop-i l = slot_from l.rows l.v 0 l.n ≡ slot_from l.rows l.v l.i (l.n - l.i)
