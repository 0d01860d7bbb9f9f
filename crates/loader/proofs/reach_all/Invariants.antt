use Prim.Native.Nat.{◌-◌}
use Rattle.machine.specs.Bytes.{table_of}
use Rattle.loader.specs.Passing.{Passed}
use Rattle.loader.proofs.Reaches.{Loop}
use Rattle.loader.proofs.reach_all.Given as goal

abbrev pub invariant-loop-head : goal.invariant-loop-head
invariant-loop-head l = Loop (table_of l.table) l.size l.head l.tail l.seen l.order × Passed (table_of l.table) l.size l.seen l.passed

abbrev pub decreases-loop-head : goal.decreases-loop-head
decreases-loop-head l = 4096 - l.head
