-- `maker::look_pair` meets its contract.
use native.Mathlib.Omega.{arith}
use Rattle.maker.proofs.Holding.{look-first, look_hit, look-on, look-end}
use Rattle.maker.proofs.look_pair.Goals as goal

pub loop-j-init : goal.loop-j-init
loop-j-init c = look-first _ _ _ _ c.number-j-end.ensures.0

pub returns-then-is_pair-clause-same : goal.returns-then-is_pair-clause-same
returns-then-is_pair-clause-same c = look_hit _ _ _ c.loop-j-test.true c.is_pair.ensures c.if-is_pair.true c.loop-j.invariant c.number.ensures.0

pub loop-j-preserved : goal.loop-j-preserved
loop-j-preserved c = look-on _ _ _ c.loop-j-test.true c.is_pair.ensures c.if-is_pair.false c.loop-j.invariant

pub returns-clause-same : goal.returns-clause-same
returns-clause-same c = look-end _ _ _ (omega (arith, c.loop-j-test.false)) c.loop-j.invariant
