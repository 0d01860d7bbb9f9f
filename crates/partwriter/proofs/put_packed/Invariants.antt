-- `partwriter::put_packed` meets its contract.
use mathlib.Core.List.{List}
use mathlib.Core.Path.{◌≡◌}
use Prim.Native.Nat.{ℕ, suc, ◌*◌, ◌≤◌}
use lib.ListN.{length, drop}
use Rattle.machine.specs.Bytes.{count}
use Rattle.partwriter.specs.Put.{Puts}
use Rattle.parts.specs.Form.{packed}
use Rattle.partwriter.proofs.put_packed.Given as goal

abbrev pub invariant-loop-i : goal.invariant-loop-i
invariant-loop-i l =
    (l.n ≤ suc (count l.object)) × (length l.object ≡ length l.initial.object) × ((o : List ℕ) (m : ℕ) → Puts l.object l.n (packed (drop (2 * l.i) l.common)) o m → Puts l.initial.object l.c (packed l.common) o m)
