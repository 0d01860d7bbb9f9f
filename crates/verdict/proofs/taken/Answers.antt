-- `verdict::taken` meets its contract: by cases of the tests.
use mathlib.Core.Path.{refl}
use borrow.Author.Tests.{lt-ltb, le-ltb}
use Rattle.verdict.specs.Told.{takes}
use Rattle.verdict.proofs.taken.Goals as goal

-- `verdict::taken` meets its contract: by cases of the tests.
pub returns-then-tag : goal.returns-then-tag
unfolding takes
returns-then-tag c = rw c.if-tag.true refl

pub returns-then-tag-lt-UPDATE : goal.returns-then-tag-lt-UPDATE
unfolding takes
returns-then-tag-lt-UPDATE c = rw (c.if-tag.false, lt-ltb _ _ c.if-tag-lt-UPDATE.true) refl

pub returns-then-tag-lt-UPDATE_WITH : goal.returns-then-tag-lt-UPDATE_WITH
unfolding takes
returns-then-tag-lt-UPDATE_WITH c = rw (c.if-tag.false, le-ltb _ _ c.if-tag-lt-UPDATE.false, lt-ltb _ _ c.if-tag-lt-UPDATE_WITH.true) refl

pub returns : goal.returns
unfolding takes
returns c = rw (c.if-tag.false, le-ltb _ _ c.if-tag-lt-UPDATE.false, le-ltb _ _ c.if-tag-lt-UPDATE_WITH.false) refl
