-- `rulerows::put_made` meets its contract.
use lib.ListN.{length}
use mathlib.Core.List.{List}
use mathlib.Core.Path.{◌≡◌}
use Prim.Native.Nat.{ℕ, ◌-◌, ◌≤◌}
use Rattle.rulerows.specs.Filled.{MadePut}
use Rattle.rulerows.proofs.put_made.Given as goal

abbrev pub invariant-loop-j : goal.invariant-loop-j
invariant-loop-j l = (l.k ≤ l.b.rules) × (length l.sheet ≡ 770) × ((sheet' : List ℕ) → MadePut l.text l.rows l.b l.j l.k l.places l.sheet sheet' → MadePut l.text l.rows l.b 0 l.b.written l.places l.initial.sheet sheet')
