use mathlib.Core.Path.{◌≡◌}
use lib.ListN.{length}
use Rattle.machine.specs.Bytes.{table_of}
use Rattle.meter.specs.Steps.{Steps, AskedFrom}
use Rattle.meter.specs.Store.{numbers_of, called_numbers}
use Rattle.meter.proofs.rounds.Given as goal

abbrev pub invariant-loop : goal.invariant-loop
invariant-loop l = (length l.rows ≡ 4490) × Steps (table_of l.program.table.now) l.program.starts.now (AskedFrom (table_of l.program.table.now) l.program.starts.now (called_numbers l.program.called.now) (length l.program.starts.now)) (called_numbers l.program.called.now) (numbers_of l.initial.rows) (numbers_of l.rows) l.changed
