-- `objects::among_names` meets its contract: the names passed are others.
use mathlib.Core.List.{List}
use mathlib.Core.Path.{◌≡◌}
use Prim.Native.Nat.{ℕ, ◌-◌, ◌≤◌}
use lib.ListN.{length, drop}
use Rattle.machine.specs.Bytes.{words_of}
use Rattle.objects.proofs.Among.{Seeking}
use Rattle.objects.specs.Places.{NameAt}
use Rattle.objects.specs.Take.{took, times}
use Rattle.objects.specs.View.{Name, a_name}
use Rattle.objects.proofs.among_names.Given as goal

abbrev pub invariant-loop : goal.invariant-loop
invariant-loop l = (l.q ≤ length (words_of l.objects))
    × ((ns : List Name) (m : Name) (rest : List ℕ) → times l.n a_name (drop l.at (words_of l.objects)) ≡ took ns rest → NameAt (words_of l.objects) l.p m → Seeking (words_of l.objects) ns rest m (l.n - l.counter) l.q)
