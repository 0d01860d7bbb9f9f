-- `verdict::head` meets its contract: by cases of the test.
use mathlib.Core.Path.{refl}
use borrow.Author.Tests.{lt-ltb, le-ltb}
use Rattle.verdict.specs.Told.{heads}
use Rattle.verdict.proofs.head.Goals as goal

-- `verdict::head` meets its contract: by cases of the test.
pub returns-then-tag-lt-ASK_WITH : goal.returns-then-tag-lt-ASK_WITH
unfolding heads
returns-then-tag-lt-ASK_WITH c = rw (lt-ltb _ _ c.if-tag-lt-ASK_WITH.true) refl

pub returns : goal.returns
unfolding heads
returns c = rw (le-ltb _ _ c.if-tag-lt-ASK_WITH.false) refl
