use mathlib.Core.Path.{refl}
use Rattle.loader.proofs.Laws.{some-worked, none-worked, none-marked, worked, pass-on}
use Rattle.loader.proofs.Visits.{two-stop, two-on}
use Rattle.loader.proofs.mark_two.Goals as goal

pub returns-in_err-at : goal.returns-in_err-at
returns-in_err-at c = none-marked c.from_residual.ensures (two-stop _ _ _ _ _ _ (none-worked c.in_err-at.was c.mark.ensures) refl)

pub returns : goal.returns
returns c = pass-on c.mark-2.ensures (two-on _ _ _ _ _ _ (some-worked c.in_ok-at.was c.mark.ensures) refl (worked c.mark-2.ensures))
