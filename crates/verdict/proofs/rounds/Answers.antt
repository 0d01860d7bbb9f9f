-- `verdict::rounds` meets its contract: rounds, not too many.
use mathlib.Core.Path.{refl}
use native.Mathlib.Omega.{arith}
use Rattle.verdict.proofs.Looking.{sweep-start, sweep-after}
use Rattle.verdict.proofs.rounds.Goals as goal

pub loop-left-init : goal.loop-left-init
loop-left-init c = (refl, sweep-start c.args.cells.now c.args.starts.now c.args.n c.args.k c.args.facts.now c.requires.0)

pub round-t-requires : goal.round-t-requires
round-t-requires c = (c.loop-left.invariant.1.widens.facts.room, c.requires.1)

pub less-left-requires : goal.less-left-requires
less-left-requires c = c.loop-left-test.true

pub loop-left-smaller : goal.loop-left-smaller
loop-left-smaller c = c.less-left.ensures

pub loop-left-preserved : goal.loop-left-preserved
loop-left-preserved c =
    let a = c.args in
    let l = c.loop-left in
    let k = c.round-t in
    (omega (arith, c.round-t.auto.facts, c.loop-left.invariant.0), sweep-after a.cells.now a.starts.now a.n a.n a.k a.facts.now c.loop-left.j c.loop-left.facts c.round-t.result.known c.round-t.new.facts c.loop-left.invariant.1 c.round-t.ensures)

pub shape_of-facts : goal.shape_of-facts
shape_of-facts c = omega arith

pub returns : goal.returns
returns c = c.loop-left.invariant.1
