-- `objects::past_pair` meets its contract: two words and two names.
use native.Mathlib.Omega.{arith}
use Rattle.objects.proofs.Ends.{no-pair, pair-off, pair_ends}
use Rattle.objects.proofs.past_pair.Goals as goal

pub returns-then-total-at-lt2-clause-ends : goal.returns-then-total-at-lt2-clause-ends
returns-then-total-at-lt2-clause-ends c = no-pair (omega arith)

pub returns-in_err-operand-clause-ends : goal.returns-in_err-operand-clause-ends
returns-in_err-operand-clause-ends c = rw c.from_residual.ensures (pair-off (omega arith) c.in_err-operand.ensures.ends)

pub returns-clause-ends : goal.returns-clause-ends
returns-clause-ends c = pair_ends (omega arith) c.in_ok-operand.ensures.ends c.past_name-2.ensures.ends
