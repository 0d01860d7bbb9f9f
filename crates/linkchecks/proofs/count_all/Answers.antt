-- `linkchecks::count_all` meets its contract.
use native.Mathlib.Omega.{arith}
use Rattle.linkchecks.specs.Row.{row_from}
use Rattle.linkchecks.proofs.Walking.{heads, still-none, ended}
use Rattle.linkchecks.proofs.count_all.Goals as goal

pub loop-cursor-init : goal.loop-cursor-init
loop-cursor-init c = (omega arith, omega arith, omega arith, λ vs v. record { row = row_from 1 vs; stands = c.first_rule-cursor.ensures.2 vs v; is = omega arith })

pub overflow_add-rules : goal.overflow_add-rules
overflow_add-rules c = omega arith

pub loop-cursor-smaller : goal.loop-cursor-smaller
loop-cursor-smaller c = omega arith

pub loop-cursor-preserved : goal.loop-cursor-preserved
loop-cursor-preserved c = (omega arith, omega arith, omega arith, λ vs v. let h = heads (c.loop-cursor.invariant.3 vs v) (omega arith) in let e = h.is in record { row = h.later; stands = c.next_rule-cursor.ensures.3 vs h.first h.later h.stands; is = omega (arith, e) })

pub returns : goal.returns
returns c = λ vs v. let s = c.loop-cursor.invariant.3 vs v in let e = ended s.stands (omega arith) in let k = still-none s (omega arith) in (e.0, omega (arith, k), e.1)
