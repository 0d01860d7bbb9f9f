-- `filter::tally_entry` meets its contract: the bytes below b are counted with this entry, the others not yet.
use Rattle.filter.proofs.Counting.{Partly}
use Rattle.filter.proofs.tally_entry.Given as goal

abbrev pub invariant-loop-b : goal.invariant-loop-b
invariant-loop-b l = Partly l.s l.i l.b l.held l.map
