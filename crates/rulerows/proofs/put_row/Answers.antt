-- `rulerows::put_row` meets its contract.
use native.Mathlib.Omega.{arith}
use lib.ListN.{length-set}
use Rattle.rulerows.proofs.put_row.Goals as goal

-- src/lib.rt:43:5
pub bounds-sheet-i-2 : goal.bounds-sheet-i-2
bounds-sheet-i-2 c = simp length-set (omega arith)

-- src/lib.rt:44:5
pub bounds-sheet-i-3 : goal.bounds-sheet-i-3
bounds-sheet-i-3 c = simp length-set (omega arith)

-- src/lib.rt:45:5
pub bounds-sheet-i-4 : goal.bounds-sheet-i-4
bounds-sheet-i-4 c = simp length-set (omega arith)

-- src/lib.rt:46:5
pub bounds-sheet-i-5 : goal.bounds-sheet-i-5
bounds-sheet-i-5 c = simp length-set (omega arith)

-- src/lib.rt:47:5
pub bounds-sheet-i-6 : goal.bounds-sheet-i-6
bounds-sheet-i-6 c = simp length-set (omega arith)
