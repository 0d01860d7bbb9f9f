-- `scanner::is_letter` meets its contract.
use mathlib.Core.Bool.{or-false}
use native.Mathlib.Omega.{arith}
use borrow.Author.Tests.{lt-leb, le-leb}
use Rattle.words.specs.Words.{letter}
use Rattle.scanner.proofs.is_letter.Goals as goal

-- `scanner::is_letter` meets its contract.
pub returns-then-b-lt65 : goal.returns-then-b-lt65
unfolding letter
returns-then-b-lt65 c = simp (lt-leb 97 c.args.b (omega arith), lt-leb 65 c.args.b c.if-b-lt65.true)

pub returns-then-b-le90 : goal.returns-then-b-le90
unfolding letter
returns-then-b-le90 c = simp (lt-leb 97 c.args.b (omega arith), le-leb 65 c.args.b c.if-b-lt65.false, le-leb c.args.b 90 c.if-b-le90.true)

pub returns-then-b-lt97 : goal.returns-then-b-lt97
unfolding letter
returns-then-b-lt97 c = simp (lt-leb 97 c.args.b c.if-b-lt97.true, le-leb 65 c.args.b c.if-b-lt65.false, lt-leb c.args.b 90 (omega arith))

pub returns : goal.returns
unfolding letter
returns c = simp (le-leb 97 c.args.b c.if-b-lt97.false, le-leb 65 c.args.b c.if-b-lt65.false, lt-leb c.args.b 90 (omega arith), or-false)
