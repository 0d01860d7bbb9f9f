-- `collector::collect_entries` meets its contract.
use native.Mathlib.Omega.{arith}
use mathlib.Core.Path.{◌∙◌}
use Rattle.collector.proofs.Laws.{entries-last, entries-more, entries-stuck}
use Rattle.collector.proofs.collect_entries.Goals as goal

pub returns-then-w-eq-SEMICOLON : goal.returns-then-w-eq-SEMICOLON
returns-then-w-eq-SEMICOLON c = c.loop-e.invariant.4 _ _ (entries-last c.collect_entry-e.ensures c.look-w.ensures c.if-w-eq-SEMICOLON.true c.max-top.ensures)

pub returns-then-e-i : goal.returns-then-e-i
returns-then-e-i c = c.loop-e.invariant.4 _ _ (entries-stuck c.collect_entry-e.ensures c.if-e-i.true)

pub loop-e-preserved : goal.loop-e-preserved
loop-e-preserved c = (omega (arith, c.if-e-i.false), c.collect_entry-e.ensures.bounds.high, c.collect_entry-e.ensures.bounds.small, c.collect_entry-e.auto.rows ∙ c.loop-e.invariant.3, λ rows' r e. c.loop-e.invariant.4 rows' r (entries-more c.collect_entry-e.ensures c.look-w.ensures c.if-w-eq-SEMICOLON.false c.max-top.ensures c.collect_entry-e.auto.rows e))
