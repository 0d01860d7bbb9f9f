use mathlib.Core.Logic.{inl, inr}
use Rattle.loader.proofs.Laws.{some-marked, worked, pass-on}
use Rattle.loader.proofs.Visits.{ends_there, one_on}
use Rattle.loader.proofs.visit_one.Goals as goal
use Rattle.loader.proofs.visit_one.Goals.{then-i-eq-RETURN-via-then-i-eq-RETURN, then-i-eq-RETURN-via-else-i-eq-RETURN+then-i-eq-END_CHOICE}

pub returns-then-i-eq-RETURN : goal.returns-then-i-eq-RETURN
returns-then-i-eq-RETURN c = elim c.then-i-eq-RETURN.branch [
  | then-i-eq-RETURN-via-then-i-eq-RETURN w ↦ some-marked (ends_there c.requires (inl w.if-i-eq-RETURN.true))
  | then-i-eq-RETURN-via-else-i-eq-RETURN+then-i-eq-END_CHOICE w ↦ some-marked (ends_there c.requires (inr w.if-i-eq-END_CHOICE.true))
]

pub returns : goal.returns
returns c = pass-on c.mark.ensures (one_on c.requires c.if-i-eq-RETURN.false c.if-i-eq-END_CHOICE.false (worked c.mark.ensures))
