-- `listing::lines_before` meets its contract: one more than the line feeds before.
use mathlib.Core.Path.{sym, ◌∙◌, ap}
use Prim.Native.Nat.{ℕ, ◌≤◌}
use native.Mathlib.Omega.{arith}
use lib.ListN.{length, take}
use lib.Seq.{length-take-le}
use Rattle.listing.specs.Listing.{line_feeds}
use Rattle.listing.proofs.Lines.{line-end}
use Rattle.listing.proofs.lines_before.Goals as goal

pub slice_bounds-line_feeds-end : goal.slice_bounds-line_feeds-end
slice_bounds-line_feeds-end c = sym (length-take-le c.min.result c.args.text.now (omega arith))

pub overflow_add-result : goal.overflow_add-result
overflow_add-result c =
    let text = c.args.text.now in
    let h : c.min.result ≤ length text = omega arith in
    omega (arith, c.line_feeds.ensures.upper_bound, length-take-le c.min.result text h)

pub returns : goal.returns
returns c =
    let a = c.args in
    line-end a.text.now a.start (c.line_feeds.ensures.value ∙ ap (λ (n : ℕ). line_feeds (take n a.text.now)) c.min.ensures)
