-- `partnames::part_place` meets its contract.
use native.Mathlib.Omega.{arith}
use Rattle.partnames.specs.Buffer.{part_place}
use Rattle.partnames.proofs.part_place.Goals as goal

pub returns : goal.returns
unfolding part_place
returns c = omega (arith, c.max.ensures)
