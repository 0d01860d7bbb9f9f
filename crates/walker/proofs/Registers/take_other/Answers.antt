-- `Registers::take_other` meets its contract.
use Rattle.walker.specs.declared.Next.{Next}
use mathlib.Core.Path.{ap}
use Rattle.walker.specs.Shape.{take_other}
use borrow.Author.Rules.{rules}
use mathlib.Core.Logic.{⊎_elim}
use Rattle.walker.proofs.Registers.take_other.Goals as goal

pub returns-in-Label : goal.returns-in-Label
unfolding take_other
returns-in-Label c = ⊎_elim (λ e. rw e (ap Next.On c.moved.ensures)) (λ e. rw e (ap Next.On c.moved.ensures)) c.in-Label.is

pub returns-in-Outside : goal.returns-in-Outside
unfolding take_other
returns-in-Outside c = search rules
