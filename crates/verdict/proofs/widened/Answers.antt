-- `verdict::widened` meets its contract: by cases of the test.
use mathlib.Core.Path.{sym, ◌∙◌}
use Rattle.verdict.specs.Told.{member}
use Rattle.base.specs.Bools.{on_true, on_false}
use Rattle.verdict.proofs.widened.Goals as goal

pub returns-then-has : goal.returns-then-has
returns-then-has c = λ s. c.union.ensures s ∙ on_true (member c.args.a c.args.k) (member c.args.a s) (member c.args.b s) (sym c.has.ensures ∙ c.if-has.true)

pub returns : goal.returns
returns c = λ s. on_false (member c.args.a c.args.k) (member c.args.a s) (member c.args.b s) (sym c.has.ensures ∙ c.if-has.false)
