use Rattle.meter.specs.Store.{numbers_of}
use mathlib.Core.Path.{◌≡◌}
use lib.ListN.{length}
use Rattle.meter.proofs.Visits.{WaysUpto}
use Rattle.machine.specs.Bytes.{table_of}
use Rattle.meter.proofs.raise_ways.Given as goal

abbrev pub invariant-loop-i : goal.invariant-loop-i
invariant-loop-i l = (WaysUpto (table_of l.table) l.c l.v l.n l.i (numbers_of l.initial.rows) (numbers_of l.rows) l.changed) × (length l.rows ≡ 4490)
