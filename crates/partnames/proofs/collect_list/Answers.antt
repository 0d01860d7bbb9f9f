-- `partnames::collect_list` meets its contract.
use Rattle.partnames.proofs.Listing.{lines_from, lines_none, lines_more, lines-stuck}
use native.Mathlib.Omega.{arith}
use mathlib.Core.Path.{refl, ◌∙◌}
use Rattle.partnames.proofs.collect_list.Goals as goal

pub loop-at-init : goal.loop-at-init
loop-at-init c = (omega arith, omega arith, omega arith, refl, omega arith, λ rows' r e. lines_from (omega arith) e)

pub begins_line-requires : goal.begins_line-requires
begins_line-requires c = omega arith

pub shape_of-rows-then-not-begins_line : goal.shape_of-rows-then-not-begins_line
shape_of-rows-then-not-begins_line c = c.loop-at.invariant.3

pub returns-then-not-begins_line : goal.returns-then-not-begins_line
returns-then-not-begins_line c = c.loop-at.invariant.5 _ _ (lines_none c.loop-at.invariant.1 c.loop-at.invariant.2 c.begins_line.ensures c.if-not-begins_line.true)

pub overflow_sub-n : goal.overflow_sub-n
overflow_sub-n c = omega arith

pub collect_rule-r-requires : goal.collect_rule-r-requires
collect_rule-r-requires c = (omega arith, omega arith, omega arith, omega arith)

pub shape_of-rows-then-r-i : goal.shape_of-rows-then-r-i
shape_of-rows-then-r-i c = c.collect_rule-r.auto.rows ∙ c.loop-at.invariant.3

pub returns-then-r-i : goal.returns-then-r-i
returns-then-r-i c = c.loop-at.invariant.5 _ _ (lines-stuck c.begins_line.ensures c.if-not-begins_line.false c.collect_rule-r.ensures c.if-r-i.true)

pub loop-at-smaller : goal.loop-at-smaller
loop-at-smaller c = omega (arith, c.if-r-i.false, c.collect_rule-r.ensures.bounds.high)

pub loop-at-preserved : goal.loop-at-preserved
loop-at-preserved c = (omega (arith, c.if-r-i.false), c.collect_rule-r.ensures.bounds.high, c.collect_rule-r.ensures.bounds.small, c.collect_rule-r.auto.rows ∙ c.loop-at.invariant.3, omega (arith, c.collect_rule-r.ensures.bounds.more), λ rows' r e. c.loop-at.invariant.5 rows' r (lines_more c.begins_line.ensures c.if-not-begins_line.false c.collect_rule-r.ensures c.collect_rule-r.auto.rows (λ z. omega (arith, z)) e))
