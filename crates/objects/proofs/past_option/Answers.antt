-- `objects::past_option` meets its contract: by its first word nothing, a name, or no option at all.
use native.Mathlib.Omega.{arith}
use Rattle.objects.proofs.Ends.{no-option, option-none, option-some, option-not}
use Rattle.objects.proofs.past_option.Goals as goal

pub returns-then-at-total-clause-ends : goal.returns-then-at-total-clause-ends
returns-then-at-total-clause-ends c = no-option (omega arith)

pub returns-in-0-clause-ends : goal.returns-in-0-clause-ends
returns-in-0-clause-ends c = option-none (omega arith) (omega arith)

pub returns-in-1-clause-ends : goal.returns-in-1-clause-ends
returns-in-1-clause-ends c = option-some (omega arith) (omega arith) c.past_name.ensures.ends

pub returns-in_default-clause-ends : goal.returns-in_default-clause-ends
returns-in_default-clause-ends c = option-not (omega arith) (λ e. omega arith) (λ e. omega arith)
