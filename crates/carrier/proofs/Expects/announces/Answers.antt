-- `carrier::Expects::announces` meets its contract.
use mathlib.Core.Path.{refl}
use borrow.Author.Tests.{ne_eqb}
use Rattle.carrier.specs.Going.{announces}
use Rattle.carrier.proofs.Expects.announces.Goals as goal

pub returns-then-i-eq-INPUT_CHOICE : goal.returns-then-i-eq-INPUT_CHOICE
unfolding announces
returns-then-i-eq-INPUT_CHOICE c = rw (c.in-Operand.is, c.if-i-eq-INPUT_CHOICE.true) refl

pub returns-else-i-eq-INPUT_CHOICE : goal.returns-else-i-eq-INPUT_CHOICE
unfolding announces
returns-else-i-eq-INPUT_CHOICE c = rw (c.in-Operand.is, ne_eqb _ 7 c.if-i-eq-INPUT_CHOICE.false) refl

pub returns-in-Instruction : goal.returns-in-Instruction
unfolding announces
returns-in-Instruction c = rw c.in-Instruction.is refl

pub returns-in-Label : goal.returns-in-Label
unfolding announces
returns-in-Label c = rw c.in-Label.is refl
