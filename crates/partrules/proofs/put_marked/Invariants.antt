-- `partrules::put_marked` meets its contract.
use mathlib.Core.List.{List}
use mathlib.Core.Path.{◌≡◌}
use Prim.Native.Nat.{ℕ, suc, ◌≤◌}
use lib.ListN.{length}
use Rattle.machine.specs.Bytes.{count}
use Rattle.partwriter.specs.Put.{Puts}
use Rattle.partrules.specs.Marks.{mark_by, turn_cells}
use Rattle.partrules.proofs.Marking.{rest}
use Rattle.partrules.proofs.put_marked.Given as goal

abbrev pub invariant-loop-cell : goal.invariant-loop-cell
invariant-loop-cell l =
    (l.m ≤ suc (count l.object)) × (length l.object ≡ length l.initial.object)
    × ((o : List ℕ) (e : ℕ) → Puts l.object l.m (rest (mark_by l.first) l.cells l.cell-index l.spot) o e → Puts l.initial.object l.c (turn_cells (mark_by l.first) l.cells) o e)
