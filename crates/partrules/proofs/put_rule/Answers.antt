-- `partrules::put_rule` meets its contract.
use Rattle.partrules.proofs.Writing.{rule-put}
use Rattle.partrules.proofs.put_rule.Goals as goal

pub returns : goal.returns
returns c = rule-put _ c.put_head-h.ensures c.count_calls-m.ensures.0 c.put-d.ensures c.put_calls-e.ensures c.put-f.ensures c.put_marked.ensures
