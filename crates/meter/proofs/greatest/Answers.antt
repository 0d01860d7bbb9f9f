use borrow.Author.Rules.{rules}
use native.Mathlib.Omega.{arith}
use Rattle.meter.proofs.Figures.{greatest-first, greatest-max, greatest-all}
use Rattle.meter.proofs.Store.{length-numbers}
use Rattle.meter.proofs.greatest.Goals as goal

pub loop-i-init : goal.loop-i-init
loop-i-init c = greatest-first _ _

pub loop-i-preserved : goal.loop-i-preserved
loop-i-preserved c = greatest-max c.loop-i.invariant c.number.ensures (omega (arith, c.loop-i-test.true, length-numbers c.args.rows.now)) (search rules)

pub returns : goal.returns
returns c = greatest-all c.loop-i.invariant (omega (arith, c.loop-i-test.false, length-numbers c.args.rows.now))
