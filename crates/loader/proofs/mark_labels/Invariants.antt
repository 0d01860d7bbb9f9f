use Rattle.machine.specs.Bytes.{table_of}
use Rattle.loader.proofs.Laws.{Along}
use Rattle.loader.proofs.mark_labels.Given as goal

abbrev pub invariant-loop-i : goal.invariant-loop-i
invariant-loop-i l = Along (table_of l.table) l.n l.from l.size l.tail l.initial.seen l.initial.order l.seen l.order l.at l.i
