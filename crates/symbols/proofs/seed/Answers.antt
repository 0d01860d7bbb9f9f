-- `symbols::seed` meets its contract.
use borrow.Author.Tests.{ne_eqb}
use native.Mathlib.Omega.{arith}
use Rattle.symbols.specs.Index.{seed_of}
use Rattle.symbols.proofs.Searches.{one_of_two}
use Rattle.symbols.proofs.seed.Goals as goal
use Rattle.symbols.proofs.seed.Goals.{in_default-via-then-class-lt2, in_default-via-else-class-lt2+else-class-lt4}

pub returns-in-2-clause-same : goal.returns-in-2-clause-same
unfolding seed_of
returns-in-2-clause-same c = simp (one_of_two 2 c.args.class (omega arith) (omega arith))

pub returns-in_default-clause-same : goal.returns-in_default-clause-same
unfolding seed_of
returns-in_default-clause-same c = elim c.in_default.branch [
  | in_default-via-then-class-lt2 w ↦ simp (ne_eqb c.args.class 2 (λ e. omega (arith, e)), ne_eqb c.args.class 3 (λ e. omega (arith, e)))
  | in_default-via-else-class-lt2+else-class-lt4 w ↦ simp (ne_eqb c.args.class 2 (λ e. omega (arith, e)), ne_eqb c.args.class 3 (λ e. omega (arith, e)))
]
