-- `verdict::put` meets its contract: two words set.
use Prim.Native.Nat.{◌*◌}
use native.Mathlib.Omega.{arith}
use lib.ListN.{length-set}
use Rattle.verdict.proofs.Table.{puts}
use Rattle.verdict.proofs.put.Goals as goal

pub bounds-rows-r-2 : goal.bounds-rows-r-2
bounds-rows-r-2 c = rw (length-set c.args.rows.now (2 * c.args.r) c.args.s.lo) (omega arith)

pub returns : goal.returns
returns c = puts c.args.rows.now c.args.r c.args.s (omega arith)
