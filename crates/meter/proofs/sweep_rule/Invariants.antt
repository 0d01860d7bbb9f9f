use Rattle.meter.specs.Store.{numbers_of, called_numbers}
use mathlib.Core.Path.{◌≡◌}
use lib.ListN.{length}
use Rattle.meter.proofs.Sweeps.{SweptUpto}
use Rattle.machine.specs.Bytes.{table_of}
use Rattle.meter.proofs.sweep_rule.Given as goal

abbrev pub invariant-loop-l : goal.invariant-loop-l
invariant-loop-l l = (SweptUpto (table_of l.program.table.now) l.program.starts.now (called_numbers l.program.called.now) l.r l.to l.l (numbers_of l.initial.rows) (numbers_of l.rows) l.changed) × (length l.rows ≡ 4490)
