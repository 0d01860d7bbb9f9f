-- `verdict::settled` meets its contract: sweeps, each of which leaves less to find.
use mathlib.Core.Path.{◌≡◌}
use lib.ListN.{length}
use Rattle.verdict.proofs.Looking.{Settling, unsettled}
use Rattle.verdict.proofs.settled.Given as goal

abbrev pub invariant-loop-more : goal.invariant-loop-more
invariant-loop-more l = (length l.facts ≡ length l.initial.facts) × Settling l.cells l.starts l.n l.more l.k l.facts

abbrev pub decreases-loop-more : goal.decreases-loop-more
decreases-loop-more l = unsettled (length l.initial.facts) l.k l.more
