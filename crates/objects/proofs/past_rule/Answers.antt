-- `objects::past_rule` meets its contract: a name, an option, names and cells, each behind the other.
use Rattle.objects.proofs.Ends.{rule-off, rule-off-gives, rule-off-calls, rule-ends}
use Rattle.objects.proofs.past_rule.Goals as goal

pub returns-in_err-gives-clause-ends : goal.returns-in_err-gives-clause-ends
returns-in_err-gives-clause-ends c = rw c.from_residual.ensures (rule-off c.in_err-gives.ensures.ends)

pub returns-in_err-calls-clause-ends : goal.returns-in_err-calls-clause-ends
returns-in_err-calls-clause-ends c = rw c.from_residual-in_err-calls.ensures (rule-off-gives c.in_ok-gives.ensures.ends c.in_err-calls.ensures.ends)

pub returns-in_err-cells-clause-ends : goal.returns-in_err-cells-clause-ends
returns-in_err-cells-clause-ends c = rw c.from_residual-in_err-cells.ensures (rule-off-calls c.in_ok-gives.ensures.ends c.in_ok-calls.ensures.ends c.in_err-cells.ensures.ends)

pub returns-clause-ends : goal.returns-clause-ends
returns-clause-ends c = rule-ends c.in_ok-gives.ensures.ends c.in_ok-calls.ensures.ends c.in_ok-cells.ensures.ends c.past_cells.ensures.ends
