use Prim.Native.Nat.{◌+◌, ◌*◌, ◌-◌}
use mathlib.Core.Path.{◌≡◌}
use lib.ListN.{length}
use Rattle.emitter.proofs.Labels.{LabelsGo}
use Rattle.emitter.proofs.emit_labels.Given as goal

abbrev pub invariant-loop-i : goal.invariant-loop-i
invariant-loop-i l = (length l.out ≡ length l.initial.out) × LabelsGo l.cells l.p l.j l.initial.out l.at l.from (l.p + l.i) (l.at + 2 * l.i) (l.j - l.i) l.out
