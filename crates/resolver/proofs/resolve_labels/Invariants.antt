-- `resolver::resolve_labels` meets its contract.
use mathlib.Core.List.{List}
use mathlib.Core.Path.{◌≡◌}
use Prim.Native.Nat.{ℕ, ◌≤◌, ◌-◌}
use lib.ListN.{length}
use Rattle.resolver.specs.Resolved.{LabelsTold, LabelsDone}
use Rattle.resolver.proofs.resolve_labels.Given as goal

abbrev pub invariant-loop-l : goal.invariant-loop-l
invariant-loop-l l =
    (l.i ≤ length l.text) × (l.u ≤ length l.seen) × (length l.seen ≡ length l.initial.seen) × ((seen' : List ℕ) (r : LabelsTold) → LabelsDone l.text l.rows l.n l.i l.class l.seen l.u seen' r → LabelsDone l.text l.rows l.n l.at l.class l.initial.seen l.used seen' r)

abbrev pub decreases-loop-l : goal.decreases-loop-l
decreases-loop-l l = length l.text - l.i
