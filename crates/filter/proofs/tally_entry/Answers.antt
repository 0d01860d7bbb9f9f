-- `filter::tally_entry` meets its contract.
use native.Mathlib.Omega.{arith}
use Rattle.filter.proofs.Counting.{partly-start, partly-next, partly-end}
use Rattle.filter.proofs.tally_entry.Goals as goal

pub loop-b-init : goal.loop-b-init
loop-b-init c = partly-start c.args.s.now c.args.i c.requires.0 c.from-first.result _ _ c.from-first.ensures c.requires.2

pub loop-b-preserved : goal.loop-b-preserved
loop-b-preserved c = partly-next c.args.s.now c.args.i c.requires.0 c.loop-b.b _ _ _ _ (omega (arith, c.loop-b.auto.b, c.from-first.ensures)) (omega (arith, c.loop-b-test.true, c.from-last.ensures)) (omega (arith, c.loop-b-test.true, c.from-last.ensures)) c.turned_token-token.result c.turned_token-token.ensures c.loop-b.invariant c.tally_byte.ensures

pub returns : goal.returns
returns c = partly-end c.args.s.now c.args.i c.requires.0 c.loop-b.b _ _ (omega (arith, c.loop-b-test.false, c.from-last.ensures)) c.loop-b.invariant
