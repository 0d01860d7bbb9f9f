-- `verdict::rounds` meets its contract: rounds, not too many.
use mathlib.Core.Path.{◌≡◌}
use lib.ListN.{length}
use Rattle.verdict.specs.Told.{SweepTold}
use Rattle.verdict.proofs.rounds.Given as goal

abbrev pub invariant-loop-left : goal.invariant-loop-left
invariant-loop-left l = (length l.facts ≡ length l.initial.facts) × SweepTold l.cells l.starts l.n l.n l.initial.j l.initial.facts l.j l.facts

abbrev pub decreases-loop-left : goal.decreases-loop-left
decreases-loop-left l = l.left
