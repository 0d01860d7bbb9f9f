-- `machine::instruction_length` meets its contract: the constant table is `lengths`, and the laws of `length_of` say the rest.
use mathlib.Core.Path.{sym}
use native.Mathlib.Omega.{arith}
use Rattle.machine.specs.Lengths.{lengths}
use Rattle.machine.proofs.Lengths.{length-entry, length_none, length-between, length-operation, length_above}
use Rattle.machine.proofs.instruction_length.Goals as goal

pub returns-in-1-to-13 : goal.returns-in-1-to-13
unfolding lengths
returns-in-1-to-13 c = rw c.from.ensures (sym (length-entry _ (omega arith) (omega arith)))

pub returns-in-256-to-1279 : goal.returns-in-256-to-1279
returns-in-256-to-1279 c = sym (length-operation _ (omega arith) (omega arith))

pub returns-in_default : goal.returns-in_default
returns-in_default c = sym (length_none _ (omega arith))

pub returns-in_default-2 : goal.returns-in_default-2
returns-in_default-2 c = sym (length-between _ (omega arith) (omega arith))

pub returns-in_default-3 : goal.returns-in_default-3
returns-in_default-3 c = sym (length_above _ (omega arith))
