-- `objects::past_cells` meets its contract: a word, and as many as it says.
use native.Mathlib.Omega.{arith}
use Rattle.objects.proofs.Ends.{no_cells, cells-end}
use Rattle.objects.proofs.past_cells.Goals as goal

pub returns-then-at-total-clause-ends : goal.returns-then-at-total-clause-ends
returns-then-at-total-clause-ends c = no_cells (omega arith)

pub returns-clause-ends : goal.returns-clause-ends
returns-clause-ends c = cells-end (omega arith) (rw c.number.ensures.0 at c.past_words.ensures.ends)
