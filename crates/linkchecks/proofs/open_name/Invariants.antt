-- `linkchecks::open_name` meets its contract: a rule has each of the names passed.
use mathlib.Core.List.{List}
use mathlib.Core.Path.{◌≡◌}
use Prim.Native.Nat.{ℕ, ◌+◌, ◌-◌, ◌≤◌}
use lib.ListN.{length, drop}
use Rattle.machine.specs.Bytes.{words_of}
use Rattle.objects.specs.View.{Name, View}
use Rattle.linkchecks.specs.Walk.{Viewed}
use Rattle.objects.specs.Take.{took, times}
use Rattle.objects.specs.View.{a_name}
use Rattle.linkchecks.specs.Row.{row_from, first_shown, open_name}
use Rattle.linkchecks.proofs.Finding.{Asking}
use Rattle.linkchecks.proofs.open_name.Given as goal

abbrev pub invariant-loop : goal.invariant-loop
invariant-loop l =
    (l.q ≤ length (words_of l.objects))
    × ((vs : List View) (ns : List Name) (rest : List ℕ) → Viewed l.common (words_of l.objects) vs → times l.n a_name (drop l.at (words_of l.objects)) ≡ took ns rest
    → Asking (words_of l.objects) (open_name (length (words_of l.objects) + 1) (row_from 1 vs) l.text) (first_shown (open_name (length (words_of l.objects) + 1) (row_from 1 vs) l.text) ns) rest (l.n - l.counter) l.q)
