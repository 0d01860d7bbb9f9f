use Rattle.mapper.specs.Mapped.{MadePut}
use lib.ListN.{length}
use Prim.Native.Nat.{ℕ, ◌-◌, ◌≤◌}
use mathlib.Core.Path.{◌≡◌}
use mathlib.Core.List.{List}
use Rattle.mapper.proofs.put_made.Given as goal

abbrev pub invariant-loop-j : goal.invariant-loop-j
invariant-loop-j l =
    (l.b.written ≤ l.k) × (l.k ≤ l.b.rules) × (length l.out ≡ length l.initial.out) × (l.at ≤ length l.text)
    × ((out' : List ℕ) → MadePut l.text l.rows l.b l.j l.k l.at l.places l.out out' → MadePut l.text l.rows l.b 0 l.b.written l.b.body l.places l.initial.out out')
