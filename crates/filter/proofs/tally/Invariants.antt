-- `filter::tally` meets its contract: entry after entry.
use Rattle.filter.specs.Working.{Tallied}
use Rattle.filter.proofs.tally.Given as goal

abbrev pub invariant-loop-i : goal.invariant-loop-i
invariant-loop-i l = Tallied l.s l.i l.held l.map
