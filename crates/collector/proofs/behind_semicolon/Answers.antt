-- `collector::behind_semicolon` meets its contract.
use native.Mathlib.Omega.{arith}
use Rattle.collector.proofs.Skips.{skip-found, skip-lost, skip-on}
use Rattle.collector.proofs.behind_semicolon.Goals as goal

pub returns-then-w-eq-SEMICOLON : goal.returns-then-w-eq-SEMICOLON
returns-then-w-eq-SEMICOLON c = skip-found c.loop-w.invariant.0 c.look-w.ensures c.if-w-eq-SEMICOLON.true c.loop-w.invariant.2

pub returns-then-w-le-LAST : goal.returns-then-w-le-LAST
returns-then-w-le-LAST c = skip-lost c.loop-w.invariant.0 c.loop-w.invariant.1 c.look-w.ensures (omega (arith, c.if-w-le-LAST.true)) c.loop-w.invariant.2

pub loop-w-preserved : goal.loop-w-preserved
loop-w-preserved c = (omega (arith, c.look-w.ensures.onto, c.loop-w.invariant.0), c.look-w.ensures.high, skip-on _ c.look-w.ensures (omega (arith, c.if-w-le-LAST.false)) c.if-w-eq-SEMICOLON.false c.loop-w.invariant.2)
