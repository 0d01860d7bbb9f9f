use Rattle.mapping.specs.Mapping.{rows_words}
use Rattle.mapper.specs.Mapped.{Puts, levels_held}
use lib.ListN.{length}
use Prim.Native.Nat.{◌-◌, ◌*◌, ◌≤◌}
use mathlib.Core.Path.{◌≡◌}
use Rattle.mapper.proofs.put_levels.Given as goal

abbrev pub invariant-loop-i : goal.invariant-loop-i
invariant-loop-i l =
    (l.k ≤ l.i) × (l.i ≤ l.end) × (length l.out ≡ length l.initial.out) × Puts l.initial.out l.out (12 * l.k) (rows_words (levels_held l.name.start l.name.len l.places l.k (l.i - l.k)))
