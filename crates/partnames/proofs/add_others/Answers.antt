-- `partnames::add_others` meets its contract.
use native.Mathlib.Omega.{arith}
use mathlib.Core.Path.{refl, ◌∙◌}
use Rattle.partnames.proofs.Mentioned.{adds_none, adds_on, adds-past, gets-on}
use Rattle.partnames.proofs.add_others.Goals as goal

pub loop-w-init : goal.loop-w-init
loop-w-init c = (omega arith, omega arith, omega arith, refl, λ rows' r e. e)

pub look-w-requires : goal.look-w-requires
look-w-requires c = omega arith

pub stops-end-requires : goal.stops-end-requires
stops-end-requires c = tt

pub shape_of-rows-then-end : goal.shape_of-rows-then-end
shape_of-rows-then-end c = c.loop-w.invariant.3

pub returns-then-end : goal.returns-then-end
returns-then-end c = c.loop-w.invariant.4 _ _ (adds_none c.loop-w.invariant.2 c.look-w.ensures c.stops-end.ensures c.if-end.true)

pub add_name-requires : goal.add_name-requires
add_name-requires c = (c.loop-w.invariant.1, c.loop-w.invariant.2, c.requires.2, c.look-w.ensures.inside)

pub shape_of-rows-in_default : goal.shape_of-rows-in_default
shape_of-rows-in_default c = c.add_name.auto.rows ∙ c.loop-w.invariant.3

pub returns-in_default : goal.returns-in_default
returns-in_default c = c.loop-w.invariant.4 _ _ (adds-past c.loop-w.invariant.2 c.look-w.ensures c.stops-end.ensures c.if-end.false c.in_default.ensures)

pub leads-led-requires : goal.leads-led-requires
leads-led-requires c = tt

pub loop-w-smaller : goal.loop-w-smaller
loop-w-smaller c = omega (arith, gets-on c.look-w.ensures c.stops-end.ensures c.if-end.false, c.look-w.ensures.high)

pub loop-w-preserved : goal.loop-w-preserved
loop-w-preserved c = let u = c.in-Some.ensures in (c.look-w.ensures.high, omega (arith, u.low, c.loop-w.invariant.1), u.high, c.add_name.auto.rows ∙ c.loop-w.invariant.3, λ rows' r e. c.loop-w.invariant.4 rows' r (adds_on c.loop-w.invariant.1 u.high c.add_name.auto.rows c.look-w.ensures c.stops-end.ensures c.if-end.false u c.leads-led.ensures e))
