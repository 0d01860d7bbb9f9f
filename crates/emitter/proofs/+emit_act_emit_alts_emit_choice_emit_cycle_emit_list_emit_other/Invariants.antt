use mathlib.Core.Path.{◌≡◌}
use Prim.Native.Nat.{◌+◌, ◌*◌, ◌-◌, ◌≤◌, ◌<◌}
use lib.ListN.{length}
use Rattle.emitter.specs.Heads.{labels_at}
use Rattle.emitter.proofs.Emits.{Goes}
use Rattle.emitter.proofs.Choices.{AltsGo}
use Rattle.emitter.proofs.+emit_act_emit_alts_emit_choice_emit_cycle_emit_list_emit_other.Given as goal

abbrev pub decreases-emit_act : goal.decreases-emit_act
decreases-emit_act l = 4 * (length l.cells.now - l.spot.p) + 2

abbrev pub decreases-emit_alts : goal.decreases-emit_alts
decreases-emit_alts l = 4 * (length l.cells.now - l.spot.p) + 0

abbrev pub decreases-emit_choice : goal.decreases-emit_choice
decreases-emit_choice l = 4 * (length l.cells.now - l.spot.p) + 1

abbrev pub decreases-emit_cycle : goal.decreases-emit_cycle
decreases-emit_cycle l = 4 * (length l.cells.now - l.spot.p) + 1

abbrev pub decreases-emit_list : goal.decreases-emit_list
decreases-emit_list l = 4 * (length l.cells.now - l.spot.p) + 3

abbrev pub decreases-emit_other : goal.decreases-emit_other
decreases-emit_other l = 4 * (length l.cells.now - l.spot.p) + 0

abbrev pub invariant-emit_alts-loop-j : goal.invariant-emit_alts-loop-j
invariant-emit_alts-loop-j l = (l.j ≡ labels_at l.cells l.here.p) × (l.j < 192) × (0 < l.j → l.here.p + 1 + l.j ≤ length l.cells) × (l.fn.spot.p ≤ l.here.p) × (l.here.p ≤ length l.cells) × (l.here.at + 2 * l.n + 400 * l.fn.spot.p ≤ l.fn.spot.at + 400 * l.here.p) × (length l.out ≡ length l.initial.out) × (length l.slots ≡ length l.initial.slots) × (l.here.exit < 2000000000) × (l.end < 2000000000) × AltsGo l.cells l.fn.spot.p l.initial.out l.fn.spot.at l.fn.spot.exit l.initial.slots l.here.p l.here.at l.here.exit l.end l.n l.out l.slots

abbrev pub decreases-emit_alts-loop-j : goal.decreases-emit_alts-loop-j
decreases-emit_alts-loop-j l = length l.cells - l.here.p

abbrev pub invariant-emit_list-loop-slots : goal.invariant-emit_list-loop-slots
invariant-emit_list-loop-slots l = (length l.out ≡ length l.initial.out) × (length l.slots ≡ length l.initial.slots) × (l.fn.spot.p ≤ l.here.p) × (l.here.p ≤ length l.cells) × (l.here.at + 400 * l.fn.spot.p ≤ l.fn.spot.at + 400 * l.here.p) × (l.here.exit < 2000000000) × Goes l.cells l.fn.spot.p l.initial.out l.fn.spot.at l.fn.spot.exit l.initial.slots l.here.p l.here.at l.here.exit l.out l.slots

abbrev pub decreases-emit_list-loop-slots : goal.decreases-emit_list-loop-slots
decreases-emit_list-loop-slots l = length l.cells - l.here.p
