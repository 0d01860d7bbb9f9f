-- `verdict::verdict` meets its contract: by `decided`; of more than 128 rules nothing is said.
use native.Mathlib.Omega.{arith}
use Rattle.verdict.proofs.verdict.Goals as goal

-- `verdict::verdict` meets its contract: by `decided`; of more than 128 rules nothing is said.
pub decided-requires : goal.decided-requires
decided-requires c = omega arith

pub returns-then-count-le-RULES : goal.returns-then-count-le-RULES
returns-then-count-le-RULES c = c.decided.ensures

pub returns : goal.returns
returns c = record { exact = λ prog m h. absurd (omega (arith, h.few)) }
