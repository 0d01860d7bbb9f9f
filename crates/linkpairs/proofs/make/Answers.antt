-- `linkpairs::make` meets its contract: what is made for the pairs left is made behind those passed.
use mathlib.Core.Path.{refl, sym, ◌∙◌}
use native.Mathlib.Omega.{arith}
use Rattle.linkpairs.proofs.Making.{rules-done, rules-step, rules-first}
use Rattle.linkpairs.proofs.make.Goals as goal

pub loop-j-init : goal.loop-j-init
loop-j-init c = let p = c.requires in (p.3, p.5, refl, p.6, p.7, λ cs' starts' sorts' r d. rules-first d)

pub site_at-q-requires : goal.site_at-q-requires
site_at-q-requires c = omega (arith, c.loop-j-test.true, c.requires.2)

pub make_levels-made-requires : goal.make_levels-made-requires
make_levels-made-requires c = let p = c.requires in let i = c.loop-j.invariant in let e = c.site_at-q.ensures in (c.site_at-q.ensures.inside, p.0, p.1, c.site_at-q.ensures.low, omega (arith, c.site_at-q.ensures.own, i.0), omega (arith, p.4, i.2), omega (arith, c.site_at-q.ensures.count, i.1), i.3, i.4)

pub loop-j-preserved : goal.loop-j-preserved
loop-j-preserved c = let i = c.loop-j.invariant in let m = c.make_levels-made.ensures in (c.make_levels-made.ensures.low, omega (arith, c.make_levels-made.ensures.bound, c.make_levels-made.ensures.same), c.make_levels-made.ensures.same ∙ i.2, c.make_levels-made.auto.starts ∙ i.3, c.make_levels-made.auto.sorts ∙ i.4, λ cs' starts' sorts' r d. i.5 cs' starts' sorts' r (rules-step (omega (arith, c.loop-j-test.true)) c.site_at-q.ensures m d))

pub shape_of-cells : goal.shape_of-cells
shape_of-cells c = c.loop-j.invariant.2

pub shape_of-starts : goal.shape_of-starts
shape_of-starts c = c.loop-j.invariant.3 ∙ sym c.requires.6

pub shape_of-sorts : goal.shape_of-sorts
shape_of-sorts c = c.loop-j.invariant.4 ∙ sym c.requires.7

pub returns : goal.returns
returns c = let i = c.loop-j.invariant in i.5 _ _ _ _ (rules-done (omega (arith, c.loop-j-test.false)) i.1)
