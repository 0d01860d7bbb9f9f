use borrow.Author.Tests.{lt-ltb, le-ltb, eq-eqb, ne_eqb}
use mathlib.Core.Logic.{inl, inr}
use mathlib.Core.Path.{◌∙◌}
use native.Mathlib.Omega.{arith}
use Rattle.std.proofs.lemmas.Bool.Decides.{nat_tests}
use Rattle.emitter.specs.Heads.{plain_of}
use Rattle.emitter.proofs.plain_of.Goals as goal

pub returns-in-4 : goal.returns-in-4
unfolding plain_of
returns-in-4 c = elim c.in-4.is [
  | inl e ↦ c.one.ensures ∙ simp (lt-ltb c.args.k 256 (omega (arith, e)), eq-eqb c.args.k 4 e)
  | inr e ↦ c.one.ensures ∙ simp (lt-ltb c.args.k 256 (omega (arith, e)), ne_eqb c.args.k 4 (λ z. omega (arith, e, z)), eq-eqb c.args.k 9 e)
]

pub returns-in-8 : goal.returns-in-8
unfolding plain_of
returns-in-8 c = c.two.ensures ∙ simp (lt-ltb c.args.k 256 (omega (arith, c.in-8.is)), ne_eqb c.args.k 4 (λ z. omega (arith, c.in-8.is, z)), ne_eqb c.args.k 9 (λ z. omega (arith, c.in-8.is, z)), eq-eqb c.args.k 8 c.in-8.is)

pub returns-in-10 : goal.returns-in-10
unfolding plain_of
returns-in-10 c = c.three.ensures ∙ simp (lt-ltb c.args.k 256 (omega (arith, c.in-10.is)), ne_eqb c.args.k 4 (λ z. omega (arith, c.in-10.is, z)), ne_eqb c.args.k 9 (λ z. omega (arith, c.in-10.is, z)), ne_eqb c.args.k 8 (λ z. omega (arith, c.in-10.is, z)), eq-eqb c.args.k 10 c.in-10.is)

pub returns-in-0-to-255 : goal.returns-in-0-to-255
unfolding plain_of
returns-in-0-to-255 c = c.two-in-0-to-255.ensures ∙ grind (arith, nat_tests)

pub returns-in-256-to-511 : goal.returns-in-256-to-511
unfolding plain_of
returns-in-256-to-511 c = c.one-in-256-to-511.ensures ∙ simp (le-ltb c.args.k 256 (omega arith), lt-ltb c.args.k 512 (omega arith))

pub returns-in_default : goal.returns-in_default
unfolding plain_of
returns-in_default c = c.three-in_default.ensures ∙ simp (le-ltb c.args.k 256 (omega arith), le-ltb c.args.k 512 (omega arith))
