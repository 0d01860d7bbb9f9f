-- `verdict::settled` meets its contract: sweeps, each of which leaves less to find.
use mathlib.Core.Path.{refl}
use native.Mathlib.Omega.{arith}
use lib.ListN.{length}
use Rattle.verdict.proofs.Looking.{settle-start, settle-next, settle-done, settle-less}
use Rattle.verdict.proofs.settled.Goals as goal

pub loop-more-init : goal.loop-more-init
loop-more-init c = (refl, settle-start c.args.cells.now c.args.starts.now c.args.n c.args.facts.now)

pub swept-j-requires : goal.swept-j-requires
swept-j-requires c = (c.loop-more.invariant.1.room, c.requires)

pub unchanged-more-requires : goal.unchanged-more-requires
unchanged-more-requires c = tt

pub before-early-requires : goal.before-early-requires
before-early-requires c = tt

pub loop-more-smaller : goal.loop-more-smaller
loop-more-smaller c =
    let l = c.loop-more in
    let s = c.swept-j in
    let h = settle-less c.swept-j.result c.loop-more.k c.loop-more.facts c.swept-j.new.facts (length c.args.facts.now) c.unchanged-more.result c.swept-j.ensures.widens (omega (arith, c.swept-j.ensures.widens.facts.room, c.swept-j.auto.facts, c.loop-more.invariant.0)) c.unchanged-more.ensures in
    rw c.loop-more-test.true h

pub loop-more-preserved : goal.loop-more-preserved
loop-more-preserved c =
    let a = c.args in
    let l = c.loop-more in
    let s = c.swept-j in
    (omega (arith, c.swept-j.auto.facts), settle-next a.cells.now a.starts.now a.n c.loop-more.more c.unchanged-more.result c.loop-more.k c.loop-more.facts c.swept-j.result c.swept-j.new.facts c.unchanged-more.ensures c.loop-more.invariant.1 c.swept-j.ensures)

pub shape_of-facts : goal.shape_of-facts
shape_of-facts c = omega arith

pub returns : goal.returns
returns c = settle-done c.args.cells.now c.args.starts.now c.args.n c.loop-more.more c.loop-more.k c.loop-more.facts c.loop-more-test.false c.loop-more.invariant.1
