-- `reader::refused` meets its contract.
use mathlib.Core.Path.{refl}
use borrow.Author.Tests.{ne_eqb, eq-eqb}
use Rattle.reader.proofs.refused.Goals as goal

pub returns-then-w-eq-BAD : goal.returns-then-w-eq-BAD
returns-then-w-eq-BAD c = record { number = simp (eq-eqb c.args.w.kind 0 c.if-w-eq-BAD.true); place = refl; size = refl }

pub returns-else-w-eq-BAD : goal.returns-else-w-eq-BAD
returns-else-w-eq-BAD c = record { number = simp (ne_eqb c.args.w.kind 0 c.if-w-eq-BAD.false); place = refl; size = refl }
