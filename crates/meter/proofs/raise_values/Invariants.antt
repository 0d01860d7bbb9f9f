use Rattle.meter.specs.Store.{numbers_of, called_numbers}
use lib.ListN.{length}
use Rattle.meter.proofs.Sweeps.{ValuesUpto}
use Rattle.machine.specs.Bytes.{table_of}
use mathlib.Core.Path.{◌≡◌}
use Prim.Native.Nat.{◌-◌}
use Rattle.meter.proofs.raise_values.Given as goal

abbrev pub invariant-loop-p : goal.invariant-loop-p
invariant-loop-p l = (ValuesUpto (table_of l.program.table.now) l.program.starts.now (called_numbers l.program.called.now) l.c l.here.number l.q l.to l.p (numbers_of l.initial.rows) (numbers_of l.rows) l.changed) × (length l.rows ≡ 4490)

abbrev pub decreases-loop-p : goal.decreases-loop-p
decreases-loop-p l = l.to - l.p
