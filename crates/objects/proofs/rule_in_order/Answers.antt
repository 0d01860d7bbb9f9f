-- `objects::rule_in_order` meets its contract: the test of the cells and names of its body.
use mathlib.Core.Path.{refl}
use Rattle.objects.proofs.Bodies.{rule-tested}
use Rattle.objects.proofs.Told.{used-none}
use Rattle.objects.proofs.rule_in_order.Goals as goal

pub returns-in_default : goal.returns-in_default
returns-in_default c = λ hs ps v k rest x y e. absurd (c.in_default.ensures.tells v k e)

pub returns-in_default-acts : goal.returns-in_default-acts
returns-in_default-acts c = λ hs ps v k rest x y e. rule-tested hs ps v (record { listed = x; rest = rest; pairs_here = y }) refl refl refl (c.in-Some.ensures.tells v k e) c.in_default-acts.ensures (λ words w t. used-none _ w t)

pub returns : goal.returns
returns c = λ hs ps v k rest x y e. rule-tested hs ps v (record { listed = x; rest = rest; pairs_here = y }) refl refl refl (c.in-Some.ensures.tells v k e) c.in-Some-acts.ensures c.used_up.ensures
