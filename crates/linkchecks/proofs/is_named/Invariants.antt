-- `linkchecks::is_named` meets its contract: the rules passed have other names.
use mathlib.Core.List.{List}
use Prim.Native.Nat.{◌-◌, ◌≤◌}
use lib.ListN.{length}
use Rattle.machine.specs.Bytes.{words_of}
use Rattle.objects.specs.View.{Name, View}
use Rattle.linkchecks.specs.Walk.{Viewed}
use Rattle.objects.specs.Places.{NameAt}
use Rattle.linkchecks.specs.Row.{row_from, is_named_below}
use Rattle.linkchecks.proofs.Walking.{Still}
use Rattle.linkchecks.proofs.is_named.Given as goal

abbrev pub invariant-loop-cursor : goal.invariant-loop-cursor
invariant-loop-cursor l =
    (l.cursor.at ≤ length (words_of l.objects)) × (l.cursor.text ≤ l.cursor.at)
    × ((vs : List View) (m : Name) → Viewed l.common (words_of l.objects) vs → NameAt (words_of l.objects) l.p m → Still l.common (words_of l.objects) vs (is_named_below l.below m.text) (is_named_below l.below m.text (row_from 1 vs)) l.cursor)

abbrev pub decreases-loop-cursor : goal.decreases-loop-cursor
decreases-loop-cursor l = length (words_of l.objects) - l.cursor.at
