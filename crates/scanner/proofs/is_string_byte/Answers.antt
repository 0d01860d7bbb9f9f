-- `scanner::is_string_byte` meets its contract.
use borrow.Author.Tests.{ne_eqb, eq-eqb}
use Rattle.words.specs.Words.{string_byte}
use Rattle.scanner.proofs.is_string_byte.Goals as goal

-- `scanner::is_string_byte` meets its contract.
pub returns-then-b-eq39 : goal.returns-then-b-eq39
unfolding string_byte
returns-then-b-eq39 c = simp (eq-eqb c.args.b 39 c.if-b-eq39.true)

pub returns : goal.returns
unfolding string_byte
returns c = simp (ne_eqb c.args.b 39 c.if-b-eq39.false)
