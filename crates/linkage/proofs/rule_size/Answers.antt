-- `linkage::rule_size` meets its contract.
use native.Mathlib.Omega.{arith}
use Rattle.linkage.proofs.Bodies.{body-size}
use Rattle.linkage.proofs.rule_size.Goals as goal

-- src/lib.rt:344:1
pub returns : goal.returns
returns c = (omega (arith, c.min.ensures, c.total-end.ensures.1), λ v k e. let y = c.body_at.ensures in omega (arith, c.min.ensures, c.total-end.ensures.0, c.body_at.ensures.inside, body-size y v k e))
