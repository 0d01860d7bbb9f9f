-- `listing::put_verdict` meets its contract, by the verdict.
use native.Mathlib.Omega.{arith}
use Rattle.listing.specs.Listing.{verdict_end}
use Rattle.listing.proofs.put_verdict.Goals as goal

pub returns-then-finishing : goal.returns-then-finishing
unfolding verdict_end
returns-then-finishing c =
    let p = c.put_bytes.ensures in record { puts = rw c.if-finishing.true p; upper_bound = omega (arith, p.next) }

pub returns-else-finishing : goal.returns-else-finishing
unfolding verdict_end
returns-else-finishing c =
    let p = c.put_bytes-else-finishing.ensures in record { puts = rw c.if-finishing.false p; upper_bound = omega (arith, p.next) }
