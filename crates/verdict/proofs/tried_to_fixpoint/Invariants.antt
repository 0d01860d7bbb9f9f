-- `verdict::tried_to_fixpoint` meets its contract: after a look that brought values any look does.
use Prim.Native.Nat.{ℕ, ◌≤◌, ◌-◌, ◌*◌}
use mathlib.Core.Path.{◌≡◌}
use mathlib.Core.List.{List}
use lib.ListN.{length}
use Rattle.verdict.specs.Told.{TriedTold}
use Rattle.verdict.specs.declared.Learnt.{Learnt}
use Rattle.verdict.proofs.tried_to_fixpoint.Given as goal

abbrev pub invariant-loop-had : goal.invariant-loop-had
invariant-loop-had l =
    (length l.facts ≡ length l.initial.facts) × (2 * l.t.known.count ≤ length l.facts) × (l.n ≤ 128) × (l.initial.had ≤ l.had) × (l.t.at ≡ l.at) × (length l.wanted ≡ 128)
    × ((j : Learnt) (old : List ℕ) → j.count ≤ l.initial.had → TriedTold l.cells l.starts l.r j old l.from l.to l.initial.t l.initial.facts → TriedTold l.cells l.starts l.r j old l.from l.to l.t l.facts)

abbrev pub decreases-loop-had : goal.decreases-loop-had
decreases-loop-had l = length l.facts - l.had
