use Rattle.meter.specs.Store.{numbers_of, called_numbers}
use mathlib.Core.Path.{◌≡◌}
use Rattle.meter.proofs.Finds.{BegunUpto}
use Rattle.machine.specs.Bytes.{table_of}
use lib.ListN.{length}
use Rattle.meter.proofs.begin.Given as goal

abbrev pub invariant-loop-start : goal.invariant-loop-start
invariant-loop-start l = (BegunUpto (table_of l.program.table.now) l.program.starts.now (called_numbers l.program.called.now) l.start-index (numbers_of l.rows)) × (length l.rows ≡ 4490)
