-- `linkchecks::name_places` meets its contract: the names of the rules passed are put.
use mathlib.Core.List.{List}
use mathlib.Core.Path.{◌≡◌}
use Prim.Native.Nat.{◌-◌, ◌≤◌}
use lib.ListN.{length}
use Rattle.machine.specs.Bytes.{words_of}
use Rattle.objects.specs.View.{View}
use Rattle.linkchecks.specs.Walk.{Viewed}
use Rattle.linkchecks.proofs.Placing.{Placed}
use Rattle.linkchecks.proofs.name_places.Given as goal

abbrev pub invariant-loop-cursor : goal.invariant-loop-cursor
invariant-loop-cursor l =
    (l.cursor.at ≤ length (words_of l.objects)) × (l.cursor.text ≤ l.cursor.at) × (l.i ≤ l.cursor.at) × (length l.names ≡ length l.initial.names)
    × ((vs : List View) → Viewed l.common (words_of l.objects) vs → Placed l.common (words_of l.objects) vs l.names l.i l.cursor)

abbrev pub decreases-loop-cursor : goal.decreases-loop-cursor
decreases-loop-cursor l = length (words_of l.objects) - l.cursor.at
