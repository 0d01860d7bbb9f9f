-- `verdict::marked` meets its contract: by the test.
use mathlib.Core.Path.{refl, ◌∙◌}
use Rattle.verdict.proofs.marked.Goals as goal

-- `verdict::marked` meets its contract: by the test.
pub with-requires : goal.with-requires
with-requires c = tt

pub returns-then-on : goal.returns-then-on
returns-then-on c = λ k l. c.with.ensures k l ∙ rw c.if-on.true refl

pub returns : goal.returns
returns c = λ k l. rw c.if-on.false refl
