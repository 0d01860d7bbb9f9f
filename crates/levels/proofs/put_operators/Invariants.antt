-- `levels::put_operators` meets its contract.
use mathlib.Core.List.{List}
use mathlib.Core.Path.{◌≡◌}
use Prim.Native.Nat.{ℕ, ◌+◌, ◌-◌, ◌≤◌}
use lib.ListN.{length}
use Rattle.levels.specs.Making.{OperatorsPut}
use Rattle.levels.proofs.put_operators.Given as goal

abbrev pub invariant-loop-aim : goal.invariant-loop-aim
invariant-loop-aim l = (l.i ≤ length l.text) × (l.c ≤ length l.cells + 1) × (length l.cells ≡ length l.initial.cells) × ((cs' : List ℕ) (r : ℕ) → OperatorsPut l.text l.rows l.n l.i l.aim.level l.aim.called l.cells l.c cs' r → OperatorsPut l.text l.rows l.n l.at l.aim.level l.aim.called l.initial.cells l.count cs' r)

abbrev pub decreases-loop-aim : goal.decreases-loop-aim
decreases-loop-aim l = length l.text - l.i
