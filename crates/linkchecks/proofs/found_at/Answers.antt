-- `linkchecks::found_at` meets its contract.
use Rattle.linkchecks.proofs.Finding.{found-is}
use Rattle.linkchecks.proofs.found_at.Goals as goal

pub returns : goal.returns
returns c = λ n k e. let a = c.args in found-is _ a.text a.p _ _ n k e c.number.ensures.0 c.number-2.ensures.0
