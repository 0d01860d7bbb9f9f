-- `verdict::round` meets its contract: one rule after the other, those that are due.
use mathlib.Core.Path.{refl}
use native.Mathlib.Omega.{arith}
use Rattle.verdict.proofs.Looking.{sweep-start, sweep-after}
use Rattle.verdict.proofs.round.Goals as goal

pub loop-r-init : goal.loop-r-init
loop-r-init c = (omega arith, refl, sweep-start c.args.cells.now c.args.starts.now c.args.n c.args.k c.args.facts.now c.requires.0)

pub overflow_sub-r : goal.overflow_sub-r
overflow_sub-r c = omega arith

pub overflow_cast-r : goal.overflow_cast-r
overflow_cast-r c = omega arith

pub has-requires : goal.has-requires
has-requires c = tt

pub looked_if-t-requires : goal.looked_if-t-requires
looked_if-t-requires c = (c.loop-r.invariant.2.widens.facts.room, omega (arith, c.loop-r.invariant.0, c.requires.1, c.loop-r-test.true))

pub unchanged-same-requires : goal.unchanged-same-requires
unchanged-same-requires c = tt

pub upto-requires : goal.upto-requires
upto-requires c = tt

pub callers-now-requires : goal.callers-now-requires
callers-now-requires c = tt

pub upto-requires-in-loop-r : goal.upto-requires-in-loop-r
upto-requires-in-loop-r c = tt

pub callers-next-requires : goal.callers-next-requires
callers-next-requires c = tt

pub loop-r-smaller : goal.loop-r-smaller
loop-r-smaller c = omega (arith, c.loop-r-test.true)

pub loop-r-preserved : goal.loop-r-preserved
loop-r-preserved c =
    let a = c.args in
    let l = c.loop-r in
    let k = c.looked_if-t in
    (omega (arith, c.loop-r.invariant.0), omega (arith, c.looked_if-t.auto.facts, c.loop-r.invariant.1), sweep-after a.cells.now a.starts.now a.n a.n a.k a.facts.now c.loop-r.j c.loop-r.facts c.looked_if-t.result c.looked_if-t.new.facts c.loop-r.invariant.2 (c.looked_if-t.ensures a.n (omega (arith, c.loop-r.invariant.0, c.loop-r-test.true))))

pub shape_of-facts : goal.shape_of-facts
shape_of-facts c = omega arith

pub returns : goal.returns
returns c = c.loop-r.invariant.2
