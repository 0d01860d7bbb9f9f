-- `scanner::is_digit` meets its contract.
use borrow.Author.Tests.{lt-leb, le-leb}
use Rattle.words.specs.Words.{digit}
use Rattle.scanner.proofs.is_digit.Goals as goal

-- `scanner::is_digit` meets its contract.
pub returns-then-b-lt48 : goal.returns-then-b-lt48
unfolding digit
returns-then-b-lt48 c = simp (lt-leb 48 c.args.b c.if-b-lt48.true)

pub returns : goal.returns
unfolding digit
returns c = simp (le-leb 48 c.args.b c.if-b-lt48.false)
