use mathlib.Core.Path.{◌≡◌}
use Prim.Native.Nat.{◌-◌}
use Rattle.machine.specs.Bytes.{table_of}
use Rattle.loader.specs.Passing.{Passed}
use Rattle.loader.proofs.Laws.{Along}
use Rattle.loader.proofs.mark_entries.Given as goal

abbrev pub invariant-loop-i : goal.invariant-loop-i
invariant-loop-i l = Along (table_of l.table) l.e.count l.e.first l.size l.tail l.initial.seen l.initial.order l.seen l.order l.at l.i × Passed (table_of l.table) l.size l.seen l.passed × (l.n ≡ l.e.count)

abbrev pub decreases-loop-i : goal.decreases-loop-i
decreases-loop-i l = l.n - l.i
