use mathlib.Core.Path.{sym, ◌∙◌}
use Rattle.emitter.proofs.Laws.{by_call, not-by-call, called-open, called-placed}
use native.Mathlib.Omega.{arith}
use Rattle.emitter.proofs.call_at.Goals as goal
use Rattle.emitter.proofs.call_at.Goals.{else-k-call-via-then-k-call+else-slot-lt-PLACED, else-k-call-via-else-k-call}

pub returns-then-slot-lt-PLACED : goal.returns-then-slot-lt-PLACED
returns-then-slot-lt-PLACED c = c.put_slot.ensures ∙ sym (by_call c.args.k c.args.call c.args.slots.now c.args.r c.args.place c.if-k-call.true ∙ called-open c.args.slots.now c.args.r c.args.place (omega (arith, c.slot.ensures, c.if-slot-lt-PLACED.true)))

pub returns-else-k-call : goal.returns-else-k-call
returns-else-k-call c = elim c.else-k-call.branch [
  | else-k-call-via-then-k-call+else-slot-lt-PLACED w ↦ sym (by_call c.args.k c.args.call c.args.slots.now c.args.r c.args.place w.if-k-call.true ∙ called-placed c.args.slots.now c.args.r c.args.place (omega (arith, w.slot.ensures, w.if-slot-lt-PLACED.false)))
  | else-k-call-via-else-k-call w ↦ sym (not-by-call c.args.k c.args.call c.args.slots.now c.args.r c.args.place w.if-k-call.false)
]
