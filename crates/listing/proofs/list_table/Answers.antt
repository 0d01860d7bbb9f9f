-- `listing::list_table` meets its contract: the heading, the figure, then the lines.
use native.Mathlib.Omega.{arith}
use Rattle.listing.specs.Listing.{table_listing}
use Rattle.listing.proofs.Laws.{puts_then, listed}
use Rattle.listing.proofs.Lines.{listed-words, first-words}
use Rattle.listing.proofs.list_table.Goals as goal

-- src/lib.rt:163:1
pub returns : goal.returns
unfolding table_listing
returns c =
    let a = c.args in
    let n = c.min-n.result in
    let h = c.put_heading-a.ensures in
    let q = c.put_figure-b.ensures in
    let w = c.put_words.ensures in
    let p = puts_then (puts_then h.puts q.puts) w.puts in
    let e = listed-words a.table.now a.words n (omega arith) in
    let l = first-words a.table.now n (omega arith) in
    rw (← e, l) (listed p (omega (arith, h.upper_bound, q.upper_bound, w.upper_bound)))
