-- `partnames::join` meets its contract.
use mathlib.Core.Path.{refl, ◌∙◌}
use native.Mathlib.Omega.{arith}
use Rattle.partnames.specs.Buffer.{part_place}
use Rattle.partnames.proofs.Copied.{both-copied}
use Rattle.partnames.proofs.join.Goals as goal

-- `partnames::join` meets its contract.
pub copy_bytes-requires : goal.copy_bytes-requires
unfolding part_place
copy_bytes-requires c = (omega arith, omega arith)

pub fill_feeds-requires : goal.fill_feeds-requires
unfolding part_place
fill_feeds-requires c = (omega (arith, c.part_place-next.ensures), omega (arith, c.part_place-next.ensures, c.copy_bytes.ensures.size))

pub copy_bytes-requires-2 : goal.copy_bytes-requires-2
copy_bytes-requires-2 c = (omega arith, omega (arith, c.part_place-next.ensures, c.copy_bytes.ensures.size, c.fill_feeds.ensures.size))

pub shape_of-buffer : goal.shape_of-buffer
shape_of-buffer c = c.copy_bytes-2.ensures.size ∙ c.fill_feeds.ensures.size ∙ c.copy_bytes.ensures.size

pub returns : goal.returns
returns c = record { size = omega (arith, c.part_place-next.ensures); bytes = both-copied c.copy_bytes.ensures c.fill_feeds.ensures c.copy_bytes-2.ensures c.part_place-next.ensures refl refl }
