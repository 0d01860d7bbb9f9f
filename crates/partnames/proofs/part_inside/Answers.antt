-- `partnames::part_inside` meets its contract.
use native.Mathlib.Omega.{arith}
use Rattle.partnames.proofs.HeadLaws.{past-text, in-text}
use Rattle.partnames.proofs.part_inside.Goals as goal

-- `partnames::part_inside` meets its contract.
pub returns-then-text-start : goal.returns-then-text-start
returns-then-text-start c = past-text _ _ _ c.if-text-start.true

pub returns : goal.returns
returns c = in-text _ _ _ _ (omega (arith, c.if-text-start.false)) c.part_len.ensures
