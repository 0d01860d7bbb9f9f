-- `verdict::looked` meets its contract: one look after the other, until the rule's end.
use Prim.Native.Nat.{ℕ, ◌-◌}
use mathlib.Core.Path.{◌≡◌}
use mathlib.Core.List.{List}
use lib.ListN.{length}
use Rattle.verdict.specs.Told.{Looks}
use Rattle.verdict.specs.declared.Learnt.{Learnt}
use Rattle.verdict.proofs.looked.Given as goal

abbrev pub invariant-loop-t : goal.invariant-loop-t
invariant-loop-t l = (length l.facts ≡ length l.initial.facts) × ((j : Learnt) (old : List ℕ) → Looks l.cells l.starts l.r j old l.at l.initial.t l.initial.facts → Looks l.cells l.starts l.r j old l.at l.t l.facts)

abbrev pub decreases-loop-t : goal.decreases-loop-t
decreases-loop-t l = length l.cells - l.t.at
