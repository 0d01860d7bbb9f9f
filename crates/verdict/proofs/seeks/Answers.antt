-- `verdict::seeks` meets its contract: what the cell and the facts say.
use native.Mathlib.Omega.{arith}
use mathlib.Core.Path.{sym, ◌∙◌}
use Rattle.verdict.proofs.Growth.{seeks-yes, seeks-no}
use Rattle.verdict.proofs.seeks.Goals as goal

pub overflow_add-i : goal.overflow_add-i
overflow_add-i c = omega arith

pub returns-then-number-eq-GIVE : goal.returns-then-number-eq-GIVE
returns-then-number-eq-GIVE c = seeks-yes c.args.cells.now c.args.i c.args.facts.now c.args.m c.args.r c.cell.result c.told.result (sym c.number.ensures.0 ∙ c.if-number-eq-GIVE.true) c.cell.ensures c.told.ensures

pub returns : goal.returns
returns c = seeks-no c.args.cells.now c.args.i c.args.facts.now c.args.m c.args.r (λ e. c.if-number-eq-GIVE.false (c.number.ensures.0 ∙ e))
