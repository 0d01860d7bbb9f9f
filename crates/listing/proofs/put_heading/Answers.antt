-- `listing::put_heading` meets its contract: four runs of bytes, one behind the other.
use native.Mathlib.Omega.{arith}
use Rattle.listing.specs.Listing.{heading}
use Rattle.listing.proofs.Laws.{puts_then}
use Rattle.listing.proofs.put_heading.Goals as goal

pub returns : goal.returns
unfolding heading
returns c =
    let a = c.put_bytes-a.ensures in
    let b = c.put_decimal-b.ensures in
    let d = c.put_bytes-d.ensures in
    let e = c.put_verdict.ensures in record { puts = puts_then (puts_then (puts_then a b.puts) d) e.puts; upper_bound = omega (arith, a.next, b.upper_bound, d.next, e.upper_bound) }
