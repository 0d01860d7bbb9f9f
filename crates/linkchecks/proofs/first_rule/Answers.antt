-- `linkchecks::first_rule` meets its contract.
use native.Mathlib.Omega.{arith}
use Rattle.linkchecks.proofs.Walking.{begins}
use Rattle.linkchecks.proofs.first_rule.Goals as goal

pub returns : goal.returns
returns c = (omega arith, omega arith, λ vs v. c.enter.ensures.3 vs vs (begins v))
