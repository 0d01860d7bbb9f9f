-- `linkchecks::past_limit` meets its contract: the rules passed are within the limit.
use native.Mathlib.Omega.{arith}
use mathlib.Core.Path.{◌∙◌}
use Rattle.linkchecks.specs.Row.{row_from}
use Rattle.linkchecks.proofs.Walking.{heads}
use Rattle.linkchecks.proofs.Finding.{shows-some, stands-name, limit-start, limit-here, limit-later, limit-none}
use Rattle.linkchecks.proofs.Rows.{viewed, finds-by, finds-none, past-rows}
use Rattle.linkchecks.proofs.past_limit.Goals as goal

pub loop-cursor-init : goal.loop-cursor-init
loop-cursor-init c = (omega arith, omega arith, omega arith, omega arith, λ vs v. record { row = row_from 1 vs; stands = c.first_rule-cursor.ensures.2 vs v; is = limit-start _ _ })

pub returns-then-i-left : goal.returns-then-i-left
returns-then-i-left c = λ d n h. let y = heads (c.loop-cursor.invariant.4 _ (viewed h)) (omega arith) in let k = stands-name y.stands in finds-by _ _ _ (past-rows c.args.left 1 h.lengths h.objects h.as_many) (limit-here _ _ y _ c.if-i-left.true (shows-some _ _ (c.found_at.ensures _ k.0 k.1)))

pub overflow_add-i : goal.overflow_add-i
overflow_add-i c = omega arith

pub loop-cursor-smaller : goal.loop-cursor-smaller
loop-cursor-smaller c = omega arith

pub loop-cursor-preserved : goal.loop-cursor-preserved
loop-cursor-preserved c = (omega arith, omega arith, omega arith, omega arith, λ vs v. let y = heads (c.loop-cursor.invariant.4 vs v) (omega arith) in limit-later _ _ y (omega arith) _ (c.next_rule-cursor.ensures.3 vs y.first y.later y.stands))

pub returns : goal.returns
returns c = λ d n h. finds-none _ (past-rows c.args.left 1 h.lengths h.objects h.as_many ∙ limit-none _ _ (c.loop-cursor.invariant.4 _ (viewed h)) (omega arith))
