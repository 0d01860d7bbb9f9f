-- `rulerows::put_written` meets its contract.
use lib.ListN.{length}
use mathlib.Core.Path.{◌≡◌}
use Prim.Native.Nat.{◌-◌, ◌≤◌}
use Rattle.rulerows.specs.Filled.{WrittenPut}
use Rattle.rulerows.proofs.put_written.Given as goal

abbrev pub invariant-loop-k : goal.invariant-loop-k
invariant-loop-k l = (l.k ≤ l.rules) × (length l.sheet ≡ 770) × WrittenPut l.rows l.first l.places l.k l.sheet
