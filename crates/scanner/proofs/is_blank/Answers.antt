-- `scanner::is_blank` meets its contract.
use borrow.Author.Tests.{ne_eqb, eq-eqb}
use Rattle.words.specs.Words.{blank}
use Rattle.scanner.proofs.is_blank.Goals as goal

-- `scanner::is_blank` meets its contract.
pub returns-then-b-eq32 : goal.returns-then-b-eq32
unfolding blank
returns-then-b-eq32 c = simp (eq-eqb c.args.b 32 c.if-b-eq32.true)

pub returns-then-b-eq9 : goal.returns-then-b-eq9
unfolding blank
returns-then-b-eq9 c = simp (ne_eqb c.args.b 32 c.if-b-eq32.false, eq-eqb c.args.b 9 c.if-b-eq9.true)

pub returns-then-b-eq13 : goal.returns-then-b-eq13
unfolding blank
returns-then-b-eq13 c = simp (ne_eqb c.args.b 32 c.if-b-eq32.false, ne_eqb c.args.b 9 c.if-b-eq9.false, eq-eqb c.args.b 13 c.if-b-eq13.true)

pub returns : goal.returns
unfolding blank
returns c = simp (ne_eqb c.args.b 32 c.if-b-eq32.false, ne_eqb c.args.b 9 c.if-b-eq9.false, ne_eqb c.args.b 13 c.if-b-eq13.false)
