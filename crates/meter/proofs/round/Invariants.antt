-- `meter::round` meets its contract.
use mathlib.Core.Path.{◌≡◌}
use Prim.Native.Nat.{◌≤◌}
use lib.ListN.{length}
use Rattle.machine.specs.Bytes.{table_of}
use Rattle.meter.specs.Steps.{Steps, AskedFrom}
use Rattle.meter.specs.Store.{numbers_of, called_numbers}
use Rattle.meter.proofs.round.Given as goal

abbrev pub invariant-loop-r : goal.invariant-loop-r
invariant-loop-r l = (l.r ≤ length l.program.starts.now) × (length l.rows ≡ 4490) × Steps (table_of l.program.table.now) l.program.starts.now (AskedFrom (table_of l.program.table.now) l.program.starts.now (called_numbers l.program.called.now) (length l.program.starts.now)) (called_numbers l.program.called.now) (numbers_of l.initial.rows) (numbers_of l.rows) l.changed
