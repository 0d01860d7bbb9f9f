use Rattle.machine.specs.Bytes.{table_of}
use Rattle.meter.proofs.Words.{Seeking}
use Rattle.meter.proofs.way_out.Given as goal

abbrev pub invariant-loop-i : goal.invariant-loop-i
invariant-loop-i l = Seeking (table_of l.table) l.c l.v l.n l.i
