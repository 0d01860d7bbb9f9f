-- `objects::is_called` meets its contract: the rules passed call others.
use mathlib.Core.List.{List}
use mathlib.Core.Path.{◌≡◌}
use Prim.Native.Nat.{ℕ, ◌-◌, ◌≤◌}
use lib.ListN.{length, drop}
use Rattle.machine.specs.Bytes.{words_of}
use Rattle.objects.proofs.Called.{SeekingRules}
use Rattle.objects.specs.Places.{NameAt}
use Rattle.objects.specs.Take.{took, times}
use Rattle.objects.specs.View.{Name, RuleView, a_rule}
use Rattle.objects.proofs.is_called.Given as goal

abbrev pub invariant-loop : goal.invariant-loop
invariant-loop l = (l.q ≤ length (words_of l.objects))
    × ((vs : List RuleView) (m : Name) (rest : List ℕ) → times l.n a_rule (drop l.at (words_of l.objects)) ≡ took vs rest → NameAt (words_of l.objects) l.p m → SeekingRules (words_of l.objects) vs rest m (l.n - l.counter) l.q)
