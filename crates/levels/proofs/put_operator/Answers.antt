-- `levels::put_operator` meets its contract.
use Rattle.levels.proofs.Putting.{operator-put}
use Rattle.levels.proofs.put_operator.Goals as goal

-- src/lib.rt:68:1
pub returns : goal.returns
returns c = operator-put _ (c.value_in-t.ensures.same _) (c.value_in-o.ensures.same _) c.put_two-a.ensures c.put_two-b.ensures c.put_two-c.ensures c.put.ensures
