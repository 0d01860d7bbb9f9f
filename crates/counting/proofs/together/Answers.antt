-- `counting::together` meets its contract: after i turns the totals of the first i rows are added.
use mathlib.Core.Path.{refl}
use native.Mathlib.Omega.{arith}
use Rattle.counting.proofs.Rules.{one-total, all-next, all_past, all_done}
use Rattle.figures.specs.Figures.{sum}
use Rattle.counting.proofs.together.Goals as goal

pub loop-i-init : goal.loop-i-init
unfolding sum
loop-i-init c = (omega arith, (omega arith, refl))

pub returns-then-all-more : goal.returns-then-all-more
returns-then-all-more c =
    let a = c.args in
    let l = c.loop-i in
    all_past a.rows.now a.counts.now a.n a.end l.i l.all c.span-more.result c.loop-i-test.true l.invariant.1.1 (one-total a.rows.now a.counts.now a.n a.end l.i c.location-from.result c.location-to.result c.span-more.result c.loop-i-test.true c.location-from.ensures c.location-to.ensures c.span-more.ensures) c.if-all-more.true

pub loop-i-preserved : goal.loop-i-preserved
loop-i-preserved c =
    let a = c.args in
    let l = c.loop-i in
    let t = c.loop-i-test.true in
    let g = all-next a.rows.now a.counts.now a.n a.end l.i c.span-more.result t (one-total a.rows.now a.counts.now a.n a.end l.i c.location-from.result c.location-to.result c.span-more.result t c.location-from.ensures c.location-to.ensures c.span-more.ensures) in
    (omega (arith, t), (omega (arith, c.if-all-more.false, l.invariant.1.0), omega (arith, g, l.invariant.1.1)))

pub returns : goal.returns
returns c =
    let a = c.args in
    let l = c.loop-i in
    all_done a.rows.now a.counts.now a.n a.end l.i l.all (omega (arith, l.invariant.0, c.loop-i-test.false)) l.invariant.1.1 l.invariant.1.0
