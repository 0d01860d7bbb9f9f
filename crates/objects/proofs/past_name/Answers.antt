-- `objects::past_name` meets its contract: two words, and as many as the second says.
use native.Mathlib.Omega.{arith}
use Rattle.objects.proofs.Ends.{name-ends, no_name}
use Rattle.objects.proofs.past_name.Goals as goal

pub returns-then-total-at-lt2-clause-ends : goal.returns-then-total-at-lt2-clause-ends
returns-then-total-at-lt2-clause-ends c = no_name (omega arith)

pub returns-clause-ends : goal.returns-clause-ends
returns-clause-ends c = name-ends (omega arith) (rw c.number.ensures.0 at c.past_words.ensures.ends)
