-- `linkchecks::find_twice` meets its contract: no part before has the name of a rule passed.
use mathlib.Core.List.{List}
use Prim.Native.Nat.{◌-◌, ◌≤◌}
use lib.ListN.{length}
use Rattle.machine.specs.Bytes.{words_of}
use Rattle.objects.specs.View.{View}
use Rattle.linkchecks.specs.Walk.{Viewed}
use Rattle.linkchecks.specs.Row.{row_from, first_shown, twice_rule}
use Rattle.linkchecks.proofs.Walking.{Still}
use Rattle.linkchecks.proofs.find_twice.Given as goal

abbrev pub invariant-loop-cursor : goal.invariant-loop-cursor
invariant-loop-cursor l =
    (l.cursor.at ≤ length (words_of l.objects)) × (l.cursor.text ≤ l.cursor.at)
    × ((vs : List View) → Viewed l.common (words_of l.objects) vs → Still l.common (words_of l.objects) vs (first_shown (twice_rule (row_from 1 vs))) (first_shown (twice_rule (row_from 1 vs)) (row_from 1 vs)) l.cursor)

abbrev pub decreases-loop-cursor : goal.decreases-loop-cursor
decreases-loop-cursor l = length (words_of l.objects) - l.cursor.at
