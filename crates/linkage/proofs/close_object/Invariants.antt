-- `linkage::close_object` meets its contract.
use mathlib.Core.List.{List, ◌++◌}
use mathlib.Core.Path.{◌≡◌}
use Prim.Native.Nat.{ℕ, suc, ◌<◌, ◌≤◌}
use lib.ListN.{length, drop}
use Rattle.machine.specs.Bytes.{words_of}
use Rattle.objects.specs.View.{RuleView, all, rule_words}
use Rattle.linkage.specs.Closing.{Lows}
use Rattle.linkage.proofs.Groups.{Going}
use Rattle.linkage.proofs.close_object.Given as goal

abbrev pub invariant-loop : goal.invariant-loop
invariant-loop l =
    (l.at ≤ length (words_of l.objects)) × (l.n ≤ suc (length l.cells)) × (length l.cells ≡ length l.initial.cells)
    × ((low : ℕ → ℕ) → Lows (words_of l.objects) l.sites l.lowest l.group.uses low → (vs : List RuleView) (k : List ℕ) → drop l.group.at (words_of l.objects) ≡ all rule_words vs ++ k → length vs ≡ l.group.left
    → Going (words_of l.objects) l.names low vs k l.initial.cells l.from l.group.left l.cells l.at l.n l.counter)
    × (length (words_of l.objects) < 9223372036854775808)
