use native.Mathlib.Omega.{arith}
use Rattle.linking.proofs.Common.{named-lines, declared}
use Rattle.linking.proofs.link_named.Goals as goal

-- src/lib.rt:165:17
pub overflow_sub-lines : goal.overflow_sub-lines
overflow_sub-lines c = (named-lines c.requires.1).0

-- src/lib.rt:166:5
pub copy_heads-requires : goal.copy_heads-requires
copy_heads-requires c = (omega (arith, c.requires.1.rowed.size), (named-lines c.requires.1).1, (named-lines c.requires.1).2)

-- src/lib.rt:167:5
pub link_objects-requires : goal.link_objects-requires
link_objects-requires c = (c.requires.0, declared c.requires.1 c.copy_heads.ensures)
