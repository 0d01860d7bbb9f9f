-- `labelled` meets its contract: at the head of the loop no label before `at` is the one sought.
use Prim.Native.Nat.{◌-◌}
use Rattle.walker.proofs.Laws.{Sought}
use Rattle.walker.proofs.labelled.Given as goal

abbrev pub invariant-loop-at : goal.invariant-loop-at
invariant-loop-at l = Sought l.t l.fn.labels.first l.fn.labels.count l.x l.at

abbrev pub decreases-loop-at : goal.decreases-loop-at
decreases-loop-at l = l.end - l.at
