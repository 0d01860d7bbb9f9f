-- `meter::sweep` meets its contract: after i turns the first i rules, in its order, are swept.
use mathlib.Core.Path.{◌≡◌}
use lib.ListN.{length}
use Rattle.machine.specs.Bytes.{table_of}
use Rattle.meter.specs.Store.{numbers_of, called_numbers}
use Rattle.meter.proofs.Sweeps.{RulesIn}
use Rattle.meter.proofs.sweep.Given as goal

abbrev pub invariant-loop-i : goal.invariant-loop-i
invariant-loop-i l = (RulesIn (table_of l.program.table.now) l.program.starts.now (called_numbers l.program.called.now) l.direction l.i (numbers_of l.initial.rows) (numbers_of l.rows) l.changed) × (length l.rows ≡ 4490)
