use mathlib.Core.Path.{◌≡◌}
use Prim.Native.Nat.{◌-◌, ◌≤◌}
use Rattle.machine.specs.Bytes.{bytes_of, over}
use Rattle.mapper.specs.Mapped.{held_rows}
use Rattle.mapping.specs.Mapping.{rows_words}
use Rattle.mapper.proofs.put_rows.Given as goal

abbrev pub invariant-loop-k : goal.invariant-loop-k
invariant-loop-k l = (l.k ≤ l.rules) × (l.out ≡ over (bytes_of (rows_words (held_rows l.text l.rows l.places l.first 0 l.k))) l.initial.out)
