-- `scanner::is_name_byte` meets its contract.
use mathlib.Core.Bool.{or-false}
use mathlib.Core.Path.{◌∙◌}
use native.Mathlib.Omega.{arith}
use borrow.Author.Tests.{lt-leb, le-leb, ne_eqb}
use Rattle.words.specs.Words.{name_byte, letter, digit}
use Rattle.scanner.proofs.is_name_byte.Goals as goal

-- `scanner::is_name_byte` meets its contract.
pub returns-then-b-ge97 : goal.returns-then-b-ge97
unfolding name_byte letter digit
returns-then-b-ge97 c = simp (le-leb 97 c.args.b c.if-b-ge97.true, le-leb 65 c.args.b (omega arith), lt-leb c.args.b 90 (omega arith), le-leb 48 c.args.b (omega arith), lt-leb c.args.b 57 (omega arith), ne_eqb c.args.b 95 (λ e. omega arith), or-false)

pub returns-then-b-le90 : goal.returns-then-b-le90
unfolding name_byte letter
returns-then-b-le90 c = simp (lt-leb 97 c.args.b (omega arith), le-leb 65 c.args.b (omega arith), le-leb c.args.b 90 c.if-b-le90.true)

pub returns-then-b-ge65 : goal.returns-then-b-ge65
unfolding name_byte letter digit
returns-then-b-ge65 c = simp (lt-leb 97 c.args.b (omega arith), le-leb 65 c.args.b (omega arith), lt-leb c.args.b 90 (omega arith), le-leb 48 c.args.b (omega arith), lt-leb c.args.b 57 (omega arith))

pub returns : goal.returns
unfolding name_byte letter
returns c = c.is_digit.ensures ∙ simp (lt-leb 97 c.args.b (omega arith), lt-leb 65 c.args.b (omega arith), ne_eqb c.args.b 95 (λ e. omega arith), or-false)
