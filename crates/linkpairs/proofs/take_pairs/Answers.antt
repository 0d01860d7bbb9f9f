-- `linkpairs::take_pairs` meets its contract: what is gathered of the pairs left is gathered of all.
use mathlib.Core.Path.{refl, sym, ◌∙◌}
use native.Mathlib.Omega.{arith}
use Rattle.linkpairs.proofs.Collecting.{pairs-done, pairs-over, pairs-off, pairs-step, pairs-as, moved}
use Rattle.linkpairs.proofs.take_pairs.Goals as goal

pub loop-t-init : goal.loop-t-init
loop-t-init c = let p = c.requires in (p.7, p.3, p.4, p.5, p.6, p.8, λ sites' lowest' r d. d)

pub take_pair-t-requires : goal.take_pair-t-requires
take_pair-t-requires c = let p = c.requires in let i = c.loop-t.invariant in (p.0, p.1, p.2, i.1, i.2, i.3, i.4)

pub shape_of-sites-then-t-ne0 : goal.shape_of-sites-then-t-ne0
shape_of-sites-then-t-ne0 c = let i = c.loop-t.invariant in c.take_pair-t.ensures.kept.sites_same ∙ i.1 ∙ sym c.requires.3

pub shape_of-lowest-then-t-ne0 : goal.shape_of-lowest-then-t-ne0
shape_of-lowest-then-t-ne0 c = let i = c.loop-t.invariant in c.take_pair-t.ensures.kept.lowest_same ∙ i.2 ∙ sym c.requires.4

pub returns-then-t-ne0 : goal.returns-then-t-ne0
returns-then-t-ne0 c = let i = c.loop-t.invariant in i.6 _ _ _ (pairs-over c.take_pair-t.ensures c.loop-t-test.true c.if-t-ne0.true)

pub past_pair-requires : goal.past_pair-requires
past_pair-requires c = omega (arith, c.loop-t.invariant.0, c.take_pair-t.ensures.at)

pub shape_of-sites-in_default : goal.shape_of-sites-in_default
shape_of-sites-in_default c = let i = c.loop-t.invariant in c.take_pair-t.ensures.kept.sites_same ∙ i.1 ∙ sym c.requires.3

pub shape_of-lowest-in_default : goal.shape_of-lowest-in_default
shape_of-lowest-in_default c = let i = c.loop-t.invariant in c.take_pair-t.ensures.kept.lowest_same ∙ i.2 ∙ sym c.requires.4

pub returns-in_default : goal.returns-in_default
returns-in_default c = let i = c.loop-t.invariant in i.6 _ _ _ (pairs-off c.take_pair-t.ensures c.loop-t-test.true c.in_default.ensures.ends)

pub overflow_sub-t : goal.overflow_sub-t
overflow_sub-t c = omega (arith, c.take_pair-t.ensures.left, c.loop-t-test.true)

pub moved_to-t-requires : goal.moved_to-t-requires
moved_to-t-requires c = tt

pub loop-t-smaller : goal.loop-t-smaller
loop-t-smaller c = omega (arith, (moved c.moved_to-t.ensures).1, c.take_pair-t.ensures.left, c.loop-t-test.true)

pub loop-t-preserved : goal.loop-t-preserved
loop-t-preserved c = let i = c.loop-t.invariant in let m = moved c.moved_to-t.ensures in let k = c.take_pair-t.ensures.kept in (omega (arith, m.0, c.in-Some.ensures.within), k.sites_same ∙ i.1, k.lowest_same ∙ i.2, omega (arith, m.2, m.3, k.count), omega (arith, m.3, k.few), m.4, λ sites' lowest' r d. i.6 sites' lowest' r (pairs-step c.take_pair-t.ensures c.loop-t-test.true c.if-t-ne0.false c.in-Some.ensures.ends refl (pairs-as c.moved_to-t.ensures d)))

pub shape_of-sites : goal.shape_of-sites
shape_of-sites c = let i = c.loop-t.invariant in i.1 ∙ sym c.requires.3

pub shape_of-lowest : goal.shape_of-lowest
shape_of-lowest c = let i = c.loop-t.invariant in i.2 ∙ sym c.requires.4

pub returns : goal.returns
returns c = let i = c.loop-t.invariant in i.6 _ _ _ (pairs-done i.3 i.4 (omega arith))
