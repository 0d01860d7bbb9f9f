use mathlib.Core.Logic.{inl, inr}
use native.Mathlib.Omega.{arith}
use borrow.Author.Tests.{lt-ltb, le-ltb, eq-eqb, ne_eqb}
use Rattle.std.proofs.lemmas.Bool.Decides.{nat_tests}
use Rattle.sizes.specs.Heads.{open_after}
use Rattle.sizes.proofs.open_after.Goals as goal

pub returns-in-0 : goal.returns-in-0
unfolding open_after
returns-in-0 c = simp (eq-eqb c.args.k 0 c.in-0.is)

pub returns-in-2 : goal.returns-in-2
unfolding open_after
returns-in-2 c = elim c.in-2.is [
  | inl e ↦ simp (ne_eqb c.args.k 0 (λ z. omega (arith, e, z)), eq-eqb c.args.k 2 e)
  | inr e ↦ simp (ne_eqb c.args.k 0 (λ z. omega (arith, e, z)), ne_eqb c.args.k 2 (λ z. omega (arith, e, z)), eq-eqb c.args.k 13 e)
]

pub returns-in-64-to-255 : goal.returns-in-64-to-255
unfolding open_after
returns-in-64-to-255 c = simp (ne_eqb c.args.k 0 (λ z. omega arith), ne_eqb c.args.k 2 (λ z. omega arith), ne_eqb c.args.k 13 (λ z. omega arith), le-ltb c.args.k 64 (omega arith), lt-ltb c.args.k 256 (omega arith))

pub returns-in_default : goal.returns-in_default
unfolding open_after
returns-in_default c = grind (arith, nat_tests)

pub returns-in_default-2 : goal.returns-in_default-2
unfolding open_after
returns-in_default-2 c = simp (ne_eqb c.args.k 0 (λ z. omega arith), ne_eqb c.args.k 2 (λ z. omega arith), ne_eqb c.args.k 13 (λ z. omega arith), le-ltb c.args.k 64 (omega arith), le-ltb c.args.k 256 (omega arith))
