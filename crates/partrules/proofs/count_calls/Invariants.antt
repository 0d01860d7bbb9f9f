-- `partrules::count_calls` meets its contract.
use mathlib.Core.Path.{◌≡◌}
use Prim.Native.Nat.{◌+◌, ◌-◌, ◌≤◌}
use lib.ListN.{length}
use Rattle.words.specs.Words.{words_at}
use Rattle.partrules.specs.Calls.{calls_from}
use Rattle.partrules.proofs.count_calls.Given as goal

abbrev pub invariant-loop-w : goal.invariant-loop-w
invariant-loop-w l = (l.p ≤ length l.text) × (l.n + l.at ≤ l.p) × (l.n + length (calls_from (words_at l.text l.p)) ≡ length (calls_from (words_at l.text l.at)))

abbrev pub decreases-loop-w : goal.decreases-loop-w
decreases-loop-w l = length l.text - l.p
