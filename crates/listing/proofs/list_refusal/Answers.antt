-- `listing::list_refusal` meets its contract: five runs of bytes, one behind the other.
use native.Mathlib.Omega.{arith}
use Rattle.listing.specs.Listing.{refusal_listing}
use Rattle.listing.proofs.Laws.{puts_then, listed}
use Rattle.listing.proofs.list_refusal.Goals as goal

pub returns : goal.returns
unfolding refusal_listing
returns c =
    let a = c.put_bytes-a.ensures in
    let b = c.put_decimal-b.ensures in
    let d = c.put_bytes-d.ensures in
    let e = c.put_decimal-e.ensures in
    let f = c.put_byte.ensures in
    let n = rw c.from.ensures at b.puts in
    let p = puts_then (puts_then (puts_then (puts_then a n) d) e.puts) f in
    listed p (omega (arith, a.next, b.upper_bound, d.next, e.upper_bound, f.next))
