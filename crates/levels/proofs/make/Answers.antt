-- `levels::make` meets its contract.
use native.Mathlib.Omega.{arith}
use mathlib.Core.Path.{refl, ◌∙◌}
use Rattle.levels.proofs.Making.{make-first, make-step, make-end, make-whole}
use Rattle.levels.proofs.make.Goals as goal

pub loop-j-init : goal.loop-j-init
loop-j-init c = (c.requires.3, refl, c.requires.4, c.requires.5, λ cs' starts' sorts' r d. make-first d)

pub loop-j-preserved : goal.loop-j-preserved
loop-j-preserved c = (omega (arith, c.make_levels-made.ensures.bound, c.make_levels-made.ensures.same), c.make_levels-made.ensures.same ∙ c.loop-j.invariant.1, c.make_levels-made.auto.starts ∙ c.loop-j.invariant.2, c.make_levels-made.auto.sorts ∙ c.loop-j.invariant.3, λ cs' starts' sorts' r d. c.loop-j.invariant.4 cs' starts' sorts' r (make-step (omega (arith, c.loop-j-test.true)) c.site_of-q.ensures c.make_levels-made.ensures d))

pub returns : goal.returns
returns c = make-whole c.number-j-end.ensures.0 (c.loop-j.invariant.4 _ _ _ _ (make-end (omega (arith, c.loop-j-test.false)) c.loop-j.invariant.0))
