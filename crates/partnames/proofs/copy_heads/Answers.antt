-- `partnames::copy_heads` meets its contract.
use native.Mathlib.Omega.{arith}
use mathlib.Core.Path.{refl}
use Rattle.partnames.proofs.HeadLaws.{no-heads, more_heads, all-heads}
use Rattle.partnames.proofs.copy_heads.Goals as goal

pub loop-i-init : goal.loop-i-init
loop-i-init c = no-heads _ _ _ _

pub copy_part-requires : goal.copy_part-requires
copy_part-requires c = (c.requires.0, omega arith, omega (arith, c.loop-i.invariant.size))

pub copy_part-requires-in-loop-i : goal.copy_part-requires-in-loop-i
copy_part-requires-in-loop-i c = (c.requires.0, omega arith, omega (arith, c.loop-i.invariant.size, c.copy_part.ensures.size))

pub loop-i-preserved : goal.loop-i-preserved
loop-i-preserved c = more_heads c.loop-i.invariant c.copy_part.ensures c.copy_part-in-loop-i.ensures refl refl refl refl refl

pub shape_of-heads : goal.shape_of-heads
shape_of-heads c = c.loop-i.invariant.size

pub returns : goal.returns
returns c = all-heads c.loop-i.invariant (omega arith)
