-- `levels::first_use` meets its contract.
use Prim.Native.Nat.{◌-◌, ◌≤◌}
use lib.ListN.{length}
use Rattle.levels.specs.Naming.{FirstDone}
use Rattle.levels.specs.declared.FirstUse.{FirstUse}
use Rattle.levels.proofs.first_use.Given as goal

abbrev pub invariant-loop-w : goal.invariant-loop-w
invariant-loop-w l = (l.i ≤ length l.text) × ((r : FirstUse) → FirstDone l.text l.rows l.n l.i l.section l.operand r → FirstDone l.text l.rows l.n l.at l.section l.operand r)

abbrev pub decreases-loop-w : goal.decreases-loop-w
decreases-loop-w l = length l.text - l.i
