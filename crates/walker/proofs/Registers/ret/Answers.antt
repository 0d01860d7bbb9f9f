-- `Registers::ret` meets its contract.
use native.Mathlib.Omega.{arith}
use borrow.Author.Tests.{eq-eqb, ne_eqb}
use Rattle.walker.specs.Shape.{return_of}
use Rattle.walker.proofs.Registers.ret.Goals as goal

pub returns-then-n-self : goal.returns-then-n-self
returns-then-n-self c = absurd (omega (arith, c.if-n-self.true, c.requires.1, c.requires.2))

pub returns-then-d-eq0 : goal.returns-then-d-eq0
unfolding return_of
returns-then-d-eq0 c = simp (eq-eqb _ _ c.if-d-eq0.true)

pub returns : goal.returns
unfolding return_of
returns c = simp (ne_eqb c.args.self.depth 0 c.if-d-eq0.false, c.back_to.ensures, c.from.ensures)
