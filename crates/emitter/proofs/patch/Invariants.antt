use mathlib.Core.Path.{◌≡◌}
use Prim.Native.Nat.{◌≤◌}
use lib.ListN.{length}
use Rattle.emitter.specs.Heads.{operand_number}
use Rattle.emitter.proofs.Patches.{PatchGo}
use Rattle.emitter.proofs.patch.Given as goal

abbrev pub invariant-loop-j : goal.invariant-loop-j
invariant-loop-j l = (length l.out ≡ length l.initial.out) × (l.j ≤ l.newest) × PatchGo l.initial.out l.newest l.to (operand_number l.operand) l.out l.j

abbrev pub decreases-loop-j : goal.decreases-loop-j
decreases-loop-j l = l.j
