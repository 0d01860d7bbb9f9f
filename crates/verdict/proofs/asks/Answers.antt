-- `verdict::asks` meets its contract: none of those looked at is v.
use native.Mathlib.Omega.{arith}
use lib.Dec.{eqb}
use lib.ListN.{get_or}
use Rattle.verdict.proofs.Listed.{neither-one}
use Rattle.verdict.proofs.asks.Goals as goal

pub loop-j-init : goal.loop-j-init
loop-j-init c = (omega arith, λ e i l. absurd (omega arith))

pub bounds-wanted-j : goal.bounds-wanted-j
bounds-wanted-j c = omega arith

pub overflow_add-j : goal.overflow_add-j
overflow_add-j c = omega arith

pub loop-j-smaller : goal.loop-j-smaller
loop-j-smaller c = omega arith

pub loop-j-preserved : goal.loop-j-preserved
loop-j-preserved c = (omega arith, neither-one (λ i. eqb c.args.v (get_or c.args.wanted.now i 0)) c.loop-j.some c.loop-j.j c.loop-j.invariant.1)

pub returns : goal.returns
returns c = λ e j l. c.loop-j.invariant.1 e j (omega arith)
