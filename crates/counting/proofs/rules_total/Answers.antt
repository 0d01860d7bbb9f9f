-- `counting::rules_total` meets its contract.
use mathlib.Core.List.{List}
use mathlib.Core.Path.{ap, ◌∙◌}
use native.Mathlib.Omega.{arith}
use Prim.Native.Nat.{ℕ, ◌/◌}
use lib.ListN.{length}
use Rattle.std.specs.Prelude.{Err}
use Rattle.std.proofs.lemmas.Result.{err_from_is_err_and}
use Rattle.counting.proofs.Rules.{no-rules, the-rules, counts-sized, counts-fit}
use Rattle.counting.specs.Counting.{totals}
use Rattle.figures.specs.Figures.{sum}
use Rattle.figures.specs.Spans.{span_totals, locations_at, bounded}
use Rattle.machine.specs.Bytes.{words_of}
use Rattle.counting.proofs.rules_total.Goals as goal

pub returns-in_err-read_figures : goal.returns-in_err-read_figures
returns-in_err-read_figures c =
    let x = err_from_is_err_and _ c.from_residual.ensures.1 in
    ap totals (x.1 ∙ ap Err (x.2 ∙ c.in_err-read_figures.ensures.refused.0)) ∙ no-rules c.args.figures.now c.args.rows.now c.args.end c.in_err-read_figures.ensures.refused.1

pub together-requires : goal.together-requires
together-requires c = let n = c.in_ok-read_figures.ensures.named in (counts-sized n, (counts-fit n, omega arith))

pub returns : goal.returns
returns c =
    let rows = c.args.rows.now in
    let n = c.in_ok-read_figures.ensures.named in
    c.together.ensures ∙ ap (λ (l : List ℕ). bounded (sum (span_totals (locations_at (words_of rows) 0 (length rows / 24)) c.args.end l))) n.counts_are
    ∙ the-rules c.args.figures.now rows c.args.end n.long n.good
