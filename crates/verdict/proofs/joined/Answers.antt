-- `verdict::joined` meets its contract: one rule more, or none.
use mathlib.Core.Path.{sym, ◌∙◌}
use Rattle.verdict.proofs.Growth.{join-new, join-old, join-off}
use Rattle.verdict.proofs.joined.Goals as goal

pub returns-then-not-has : goal.returns-then-not-has
returns-then-not-has c = join-new c.args.ps c.args.r c.args.on c.with.result c.if-on.true (sym c.has.ensures ∙ c.if-not-has.true) c.with.ensures

pub returns-else-not-has : goal.returns-else-not-has
returns-else-not-has c = join-old c.args.ps c.args.r c.args.on (sym c.has.ensures ∙ c.if-not-has.false)

pub returns-else-on : goal.returns-else-on
returns-else-on c = join-off c.args.ps c.args.r c.args.on c.if-on.false
