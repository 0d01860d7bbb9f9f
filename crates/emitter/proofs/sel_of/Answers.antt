use borrow.Author.Tests.{lt-ltb, le-ltb, eq-eqb, ne_eqb}
use mathlib.Core.Path.{◌∙◌}
use native.Mathlib.Omega.{arith}
use Rattle.emitter.specs.Heads.{sel_of}
use Rattle.emitter.proofs.sel_of.Goals as goal

pub returns-in-7 : goal.returns-in-7
unfolding sel_of
returns-in-7 c = simp (eq-eqb c.args.k 7 c.in-7.is)

pub returns-in-11 : goal.returns-in-11
unfolding sel_of
returns-in-11 c = c.two.ensures ∙ simp (ne_eqb c.args.k 7 (λ z. omega (arith, c.in-11.is, z)), eq-eqb c.args.k 11 c.in-11.is)

pub returns-in-0-to-1023 : goal.returns-in-0-to-1023
unfolding sel_of
returns-in-0-to-1023 c = c.one.ensures ∙ simp (ne_eqb c.args.k 7 (λ z. omega arith), ne_eqb c.args.k 11 (λ z. omega arith), lt-ltb c.args.k 1024 (omega arith))

pub returns-in_default : goal.returns-in_default
unfolding sel_of
returns-in_default c = c.three.ensures ∙ simp (ne_eqb c.args.k 7 (λ z. omega arith), ne_eqb c.args.k 11 (λ z. omega arith), le-ltb c.args.k 1024 (omega arith))
