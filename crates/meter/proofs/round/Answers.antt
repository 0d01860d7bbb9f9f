-- `meter::round` meets its contract.
use mathlib.Core.Path.{refl, ◌∙◌}
use native.Mathlib.Omega.{arith}
use Rattle.meter.proofs.Sweeps.{none-asked, then-swept}
use Rattle.meter.proofs.round.Goals as goal

pub loop-r-init : goal.loop-r-init
loop-r-init c = (omega arith, c.requires.1, none-asked c.requires.0)

pub is_pending-on-requires : goal.is_pending-on-requires
is_pending-on-requires c = (c.loop-r.invariant.2.kept.shaped.rising, omega (arith, c.loop-r.invariant.0, c.loop-r.invariant.2.kept.shaped.few, c.loop-r-test.true), c.loop-r.invariant.2.kept.shaped.short)

pub sweep_if-more-requires : goal.sweep_if-more-requires
sweep_if-more-requires c = (c.loop-r.invariant.2.kept, omega (arith, c.loop-r.invariant.0, c.loop-r-test.true), c.loop-r.invariant.1)

pub with_due-now-requires : goal.with_due-now-requires
with_due-now-requires c = tt

pub loop-r-preserved : goal.loop-r-preserved
loop-r-preserved c = (omega (arith, c.loop-r.invariant.0), c.sweep_if-more.auto.rows ∙ c.loop-r.invariant.1, then-swept c.loop-r.invariant.2 c.sweep_if-more.ensures refl)

pub returns : goal.returns
returns c = c.loop-r.invariant.2
