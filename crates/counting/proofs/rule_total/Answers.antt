-- `counting::rule_total` meets its contract.
use mathlib.Core.Path.{ap, ◌∙◌}
use Rattle.std.specs.Prelude.{Err}
use Rattle.std.proofs.lemmas.Result.{err_from_is_err_and}
use Rattle.counting.proofs.Rules.{no-span, the-span, counts-sized, counts-fit}
use Rattle.counting.specs.Counting.{totals}
use Rattle.figures.specs.Spans.{span_total}
use Rattle.counting.proofs.rule_total.Goals as goal

pub returns-in_err-read_figures : goal.returns-in_err-read_figures
returns-in_err-read_figures c =
    let x = err_from_is_err_and _ c.from_residual.ensures.1 in
    ap totals (x.1 ∙ ap Err (x.2 ∙ c.in_err-read_figures.ensures.refused.0)) ∙ no-span c.args.figures.now c.args.from c.args.to c.in_err-read_figures.ensures.refused.1

pub span-requires : goal.span-requires
span-requires c = let n = c.in_ok-read_figures.ensures.named in (counts-sized n, counts-fit n)

pub returns : goal.returns
returns c =
    let n = c.in_ok-read_figures.ensures.named in
    the-span c.args.figures.now c.args.from c.args.to c.span.result n.long n.good (c.span.ensures ∙ ap (span_total c.args.from c.args.to) n.counts_are)
