-- `carrier::Expects::calls` meets its contract.
use mathlib.Core.Path.{refl}
use Rattle.carry.specs.Scan.{is_call}
use Rattle.carrier.proofs.Expects.calls.Goals as goal

pub returns-in-Operand : goal.returns-in-Operand
unfolding is_call
returns-in-Operand c = rw c.in-Operand.is refl

pub returns-in-Instruction : goal.returns-in-Instruction
unfolding is_call
returns-in-Instruction c = rw c.in-Instruction.is refl

pub returns-in-Label : goal.returns-in-Label
unfolding is_call
returns-in-Label c = rw c.in-Label.is refl
