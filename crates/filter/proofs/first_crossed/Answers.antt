-- `filter::first_crossed` meets its contract.
use native.Mathlib.Omega.{arith}
use Rattle.filter.proofs.Laws.{crossed-on, crossed-here, crossed-end}
use Rattle.filter.proofs.first_crossed.Goals as goal

pub returns-then-s-i : goal.returns-then-s-i
returns-then-s-i c = crossed-here c.args.s.now c.loop-i.i (omega (arith, c.loop-i-test.true, c.requires)) c.if-s-i.true c.loop-i.invariant

pub loop-i-preserved : goal.loop-i-preserved
loop-i-preserved c = crossed-on c.args.s.now c.loop-i.i (omega (arith, c.loop-i-test.true, c.requires)) c.if-s-i.false c.loop-i.invariant

pub returns : goal.returns
returns c = crossed-end c.args.s.now c.loop-i.i (omega (arith, c.loop-i-test.false, c.requires)) c.loop-i.invariant
