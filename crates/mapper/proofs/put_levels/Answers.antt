use borrow.Author.Rules.{rules}
use Rattle.mapper.proofs.Made.{levels-start, levels-step, levels-end}
use native.Mathlib.Omega.{arith}
use mathlib.Core.Path.{refl, ◌∙◌}
use Rattle.mapper.proofs.put_levels.Goals as goal

-- src/lib.rt:80:5
pub loop-i-init : goal.loop-i-init
loop-i-init c = (omega arith, omega (arith, c.requires.0), refl, levels-start _ _ _ _)

-- src/lib.rt:81:47
pub bounds-places-i : goal.bounds-places-i
bounds-places-i c = omega (arith, c.requires.2, c.loop-i-test.true)

-- src/lib.rt:81:9
pub put_row-requires : goal.put_row-requires
put_row-requires c = omega (arith, c.requires.3, c.loop-i-test.true, c.loop-i.invariant.2)

-- src/lib.rt:80:5
pub loop-i-preserved : goal.loop-i-preserved
loop-i-preserved c = (omega (arith, c.loop-i.invariant.0), omega (arith, c.loop-i-test.true), search rules ∙ c.loop-i.invariant.2, levels-step _ _ _ _ _ c.loop-i.invariant.0 c.loop-i.invariant.3 c.put_row.ensures)

-- src/lib.rt:75:1
pub shape_of-out : goal.shape_of-out
shape_of-out c = c.loop-i.invariant.2

-- src/lib.rt:75:1
pub returns : goal.returns
returns c = levels-end _ _ _ _ _ _ (omega (arith, c.loop-i.invariant.1, c.loop-i-test.false)) c.loop-i.invariant.3
