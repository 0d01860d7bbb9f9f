-- `admission::lowest_denied` meets its contract.
use mathlib.Core.Path.{◌≡◌}
use Prim.Native.Nat.{◌+◌, ◌-◌}
use Rattle.machine.specs.Bytes.{table_of}
use Rattle.rights.specs.Rights.{lowest, denied}
use Rattle.admission.proofs.lowest_denied.Given as goal

abbrev pub invariant-loop-l : goal.invariant-loop-l
invariant-loop-l l = lowest (table_of l.table) l.set (l.size + 1 - l.l) l.l ≡ denied (table_of l.table) l.set
