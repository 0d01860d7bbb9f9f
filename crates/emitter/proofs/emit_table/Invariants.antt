use mathlib.Core.Path.{◌≡◌}
use Prim.Native.Nat.{◌≤◌}
use lib.ListN.{length}
use Rattle.emitter.proofs.Tables.{TableGo}
use Rattle.emitter.proofs.emit_table.Given as goal

abbrev pub invariant-loop-j : goal.invariant-loop-j
invariant-loop-j l = (length l.out ≡ length l.initial.out) × (l.j ≤ l.newest) × (l.l ≤ l.end) × TableGo l.cells l.initial.out l.newest l.from l.end l.out l.j l.l

abbrev pub decreases-loop-j : goal.decreases-loop-j
decreases-loop-j l = l.j
