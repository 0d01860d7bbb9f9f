-- `objects::used_up` meets its contract.
use Rattle.objects.proofs.Told.{used-cells, used-names, used_all}
use Rattle.objects.proofs.used_up.Goals.{then-o-via-then-o, then-o-via-else-o+then-o-ne0}
use Rattle.objects.proofs.used_up.Goals as goal

pub returns-then-o : goal.returns-then-o
returns-then-o c =
    λ words w x.
    elim c.then-o.branch [
      | then-o-via-then-o v ↦ used-cells _ _ w x v.if-o.true
      | then-o-via-else-o+then-o-ne0 v ↦ used-names _ _ w x v.if-o-ne0.true
    ]

pub returns : goal.returns
returns c = λ words w x. used_all _ _ w x c.if-o.false c.if-o-ne0.false
