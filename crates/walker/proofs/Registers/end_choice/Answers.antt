-- `Registers::end_choice` meets its contract.
use native.Mathlib.Omega.{arith}
use Rattle.walker.proofs.Registers.end_choice.Goals as goal

pub returns-then-n-self : goal.returns-then-n-self
returns-then-n-self c = absurd (omega (arith, c.if-n-self.true, c.requires.1, c.requires.2))
