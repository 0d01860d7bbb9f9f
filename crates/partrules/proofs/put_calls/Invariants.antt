-- `partrules::put_calls` meets its contract.
use mathlib.Core.List.{List}
use mathlib.Core.Path.{◌≡◌}
use Prim.Native.Nat.{ℕ, suc, ◌-◌, ◌≤◌}
use lib.ListN.{length}
use Rattle.machine.specs.Bytes.{count}
use Rattle.partwriter.specs.Put.{Puts}
use Rattle.words.specs.Words.{words_at}
use Rattle.partrules.specs.Calls.{calls_from, called}
use Rattle.partrules.proofs.put_calls.Given as goal

abbrev pub invariant-loop-w : goal.invariant-loop-w
invariant-loop-w l =
    (l.p ≤ length l.text) × (l.n ≤ suc (count l.object)) × (length l.object ≡ length l.initial.object)
    × ((o : List ℕ) (e : ℕ) → Puts l.object l.n (called l.moved (calls_from (words_at l.text l.p))) o e → Puts l.initial.object l.c (called l.moved (calls_from (words_at l.text l.at))) o e)

abbrev pub decreases-loop-w : goal.decreases-loop-w
decreases-loop-w l = length l.text - l.p
