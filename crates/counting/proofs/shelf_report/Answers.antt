-- `counting::shelf_report` meets its contract.
use mathlib.Core.Path.{ap, ◌∙◌}
use Rattle.std.specs.Prelude.{Err}
use Rattle.std.proofs.lemmas.Result.{err_from_is_err_and}
use Rattle.counting.proofs.Adds.{no-report, the-report}
use Rattle.counting.specs.Counting.{reports}
use Rattle.counting.proofs.shelf_report.Goals as goal

pub returns-in_err-sums : goal.returns-in_err-sums
returns-in_err-sums c =
    let x = err_from_is_err_and _ c.from_residual.ensures.1 in
    ap reports (x.1 ∙ ap Err (x.2 ∙ c.in_err-sums.ensures.refused.0)) ∙ no-report c.args.figures.now c.in_err-sums.ensures.refused.1

pub returns : goal.returns
returns c =
    let n = c.in_ok-sums.ensures.named in
    the-report c.args.figures.now n.long n.good _ _ _ _ _ n.books_are n.total_is c.covered.ensures c.mean_of.ensures c.rest_of.ensures
