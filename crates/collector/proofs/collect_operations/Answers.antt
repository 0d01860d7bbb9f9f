-- `collector::collect_operations` meets its contract.
use native.Mathlib.Omega.{arith}
use mathlib.Core.Path.{◌∙◌}
use Rattle.collector.proofs.Laws.{operations-last, operations-more, operations-stuck}
use Rattle.collector.proofs.collect_operations.Goals as goal

pub returns-then-w-eq-SEMICOLON : goal.returns-then-w-eq-SEMICOLON
returns-then-w-eq-SEMICOLON c = c.loop-o.invariant.4 _ _ (operations-last c.collect_operation-o.ensures c.look-w.ensures c.if-w-eq-SEMICOLON.true)

pub returns-then-o-i : goal.returns-then-o-i
returns-then-o-i c = c.loop-o.invariant.4 _ _ (operations-stuck c.collect_operation-o.ensures c.if-o-i.true)

pub loop-o-preserved : goal.loop-o-preserved
loop-o-preserved c = (omega (arith, c.if-o-i.false), c.collect_operation-o.ensures.bounds.high, c.collect_operation-o.ensures.bounds.small, c.collect_operation-o.auto.rows ∙ c.loop-o.invariant.3, λ rows' r e. c.loop-o.invariant.4 rows' r (operations-more c.collect_operation-o.ensures c.look-w.ensures c.if-w-eq-SEMICOLON.false c.collect_operation-o.auto.rows e))
