use Rattle.meter.specs.Store.{numbers_of, called_numbers}
use mathlib.Core.Path.{◌≡◌}
use lib.ListN.{length}
use Rattle.meter.proofs.Sweeps.{Settling, todo}
use Rattle.machine.specs.Bytes.{table_of}
use Rattle.meter.proofs.settle.Given as goal

abbrev pub invariant-loop-changed : goal.invariant-loop-changed
invariant-loop-changed l = (Settling (table_of l.program.table.now) l.program.starts.now (called_numbers l.program.called.now) (numbers_of l.initial.rows) (numbers_of l.rows) l.changed) × (length l.rows ≡ 4490)

abbrev pub decreases-loop-changed : goal.decreases-loop-changed
decreases-loop-changed l = todo (numbers_of l.rows) l.changed
