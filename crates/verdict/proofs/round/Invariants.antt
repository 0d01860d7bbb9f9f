-- `verdict::round` meets its contract: one rule after the other, those that are due.
use Prim.Native.Nat.{◌≤◌}
use mathlib.Core.Path.{◌≡◌}
use lib.ListN.{length}
use Rattle.verdict.specs.Told.{SweepTold}
use Rattle.verdict.proofs.round.Given as goal

abbrev pub invariant-loop-r : goal.invariant-loop-r
invariant-loop-r l = (l.r ≤ l.n) × (length l.facts ≡ length l.initial.facts) × SweepTold l.cells l.starts l.n l.n l.initial.j l.initial.facts l.j l.facts

abbrev pub decreases-loop-r : goal.decreases-loop-r
decreases-loop-r l = l.r
