-- `listing::put_figure` meets its contract, by the figure.
use native.Mathlib.Omega.{arith}
use Rattle.listing.proofs.Laws.{figure-none, figure-some}
use Rattle.listing.proofs.put_figure.Goals as goal

-- `listing::put_figure` meets its contract, by the figure.
-- src/lib.rt:153:9
pub returns-then-figure-eq0 : goal.returns-then-figure-eq0
returns-then-figure-eq0 c = record { puts = figure-none _ _ c.if-figure-eq0.true; upper_bound = omega arith }

-- src/lib.rt:147:1
pub returns : goal.returns
returns c =
    let d = c.put_decimal-a.ensures in
    let e = c.put_byte.ensures in record { puts = figure-some _ c.if-figure-eq0.false d.puts e; upper_bound = omega (arith, d.upper_bound, e.next) }
