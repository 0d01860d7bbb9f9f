-- `objects::past_calls` meets its contract: a word, and as many names as it says.
use native.Mathlib.Omega.{arith}
use Rattle.objects.proofs.Ends.{no-calls, calls-end}
use Rattle.objects.proofs.past_calls.Goals as goal

pub returns-then-at-total-clause-ends : goal.returns-then-at-total-clause-ends
returns-then-at-total-clause-ends c = no-calls (omega arith)

pub returns-clause-ends : goal.returns-clause-ends
returns-clause-ends c = calls-end (omega arith) (rw c.number.ensures.0 at c.past_names.ensures.ends)
