-- `declarer::slot_of` meets its contract.
use native.Mathlib.Omega.{arith}
use Rattle.declarer.proofs.MarkLaws.{slot-without, slot-found, slot_next, slot-missing}
use Rattle.declarer.proofs.slot_of.Goals as goal

pub returns-in_err-v-clause-same : goal.returns-in_err-v-clause-same
returns-in_err-v-clause-same c = λ x e. rw c.from_residual.ensures (slot-without c.args.rows.now c.args.n c.in_err-v.was x e)

pub returns-then-number-v-clause-same : goal.returns-then-number-v-clause-same
returns-then-number-v-clause-same c = λ x e. slot-found c.args.rows.now c.in_ok-v.v c.args.n c.loop-i.i c.loop-i.invariant c.in_ok-v.was x e c.number.result c.loop-i-test.true c.number.ensures.0 c.if-number-v.true

pub loop-i-preserved : goal.loop-i-preserved
loop-i-preserved c = slot_next c.args.rows.now c.in_ok-v.v c.args.n c.loop-i.i c.loop-i.invariant c.number.result c.loop-i-test.true c.number.ensures.0 c.if-number-v.false

pub returns-clause-same : goal.returns-clause-same
returns-clause-same c = λ x e. slot-missing c.args.rows.now c.in_ok-v.v c.args.n c.loop-i.i c.loop-i.invariant c.in_ok-v.was x e (omega arith) c.loop-i-test.false
