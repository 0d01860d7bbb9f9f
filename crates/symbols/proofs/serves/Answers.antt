-- `symbols::serves` meets its contract.
use borrow.Author.Tests.{ne_eqb, eq-eqb}
use native.Mathlib.Omega.{arith}
use Rattle.symbols.specs.Search.{serves}
use Rattle.symbols.proofs.Searches.{one_of_two}
use Rattle.symbols.proofs.serves.Goals as goal

pub returns-then-d-c : goal.returns-then-d-c
unfolding serves
returns-then-d-c c = simp (eq-eqb c.args.d c.args.c c.if-d-c.true)

pub returns-else-d-eq-BOTH : goal.returns-else-d-eq-BOTH
unfolding serves
returns-else-d-eq-BOTH c = simp (ne_eqb c.args.d c.args.c c.if-d-c.false, ne_eqb c.args.d 3 c.if-d-eq-BOTH.false)

pub returns-in-1 : goal.returns-in-1
unfolding serves
returns-in-1 c = simp (ne_eqb c.args.d c.args.c c.if-d-c.false, eq-eqb c.args.d 3 c.if-d-eq-BOTH.true, one_of_two 1 c.args.c (omega arith) (omega arith))

pub returns-in_default : goal.returns-in_default
unfolding serves
returns-in_default c = simp (ne_eqb c.args.d c.args.c c.if-d-c.false, eq-eqb c.args.d 3 c.if-d-eq-BOTH.true, ne_eqb c.args.c 1 (λ e. omega (arith, e)), ne_eqb c.args.c 2 (λ e. omega (arith, e)))

pub returns-in_default-2 : goal.returns-in_default-2
unfolding serves
returns-in_default-2 c = simp (ne_eqb c.args.d c.args.c c.if-d-c.false, eq-eqb c.args.d 3 c.if-d-eq-BOTH.true, ne_eqb c.args.c 1 (λ e. omega (arith, e)), ne_eqb c.args.c 2 (λ e. omega (arith, e)))
