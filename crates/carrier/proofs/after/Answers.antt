-- `carrier::after` meets its contract.
use mathlib.Core.Path.{refl, sym, ap, ◌∙◌}
use Prim.Native.Nat.{◌*◌}
use borrow.Author.Tests.{ne_eqb}
use Rattle.machine.specs.Lengths.{length_of}
use Rattle.carry.specs.Scan.{labels_left}
use Rattle.carrier.specs.Going.{expects_by}
use Rattle.carrier.proofs.after.Goals as goal

pub returns-in-Operand : goal.returns-in-Operand
unfolding expects_by
returns-in-Operand c = rw c.in-Operand.is refl

pub returns-in-Label : goal.returns-in-Label
unfolding expects_by
returns-in-Label c = rw c.in-Label.is c.labels.ensures

pub returns-in-Instruction : goal.returns-in-Instruction
unfolding expects_by
returns-in-Instruction c = rw (c.in-Instruction.is, c.if-here.true) (c.labels-in-Instruction.ensures ∙ ap (λ n. labels_left (2 * n)) c.from.ensures)

pub returns-in-Instruction-2 : goal.returns-in-Instruction-2
unfolding expects_by
returns-in-Instruction-2 c = rw (c.in-Instruction.is, c.if-here.false, sym c.instruction_length.ensures ∙ c.if-instruction_length-eq2.true) refl

pub returns-in-Instruction-3 : goal.returns-in-Instruction-3
unfolding expects_by
returns-in-Instruction-3 c = rw (c.in-Instruction.is, c.if-here.false, ne_eqb (length_of c.args.w) 2 (λ z. c.if-instruction_length-eq2.false (c.instruction_length.ensures ∙ z))) refl
