-- `linkchecks::find_unlike` meets its contract: nothing is shown of the rules passed.
use mathlib.Core.List.{List}
use Prim.Native.Nat.{◌+◌, ◌-◌, ◌≤◌}
use lib.ListN.{length}
use Rattle.machine.specs.Bytes.{words_of}
use Rattle.objects.specs.View.{View}
use Rattle.linkchecks.specs.Walk.{Viewed}
use Rattle.objects.specs.Places.{HeadsAt}
use Rattle.syntax.specs.Texts.{Head}
use Rattle.linkchecks.specs.Row.{row_from, first_shown, unlike_rule}
use Rattle.linkchecks.proofs.Walking.{Still}
use Rattle.linkchecks.proofs.find_unlike.Given as goal

abbrev pub invariant-loop-cursor : goal.invariant-loop-cursor
invariant-loop-cursor l =
    (l.cursor.at ≤ length (words_of l.objects)) × (l.cursor.text ≤ l.cursor.at)
    × ((hs : List Head) (vs : List View) → HeadsAt l.common l.heads hs → Viewed l.common (words_of l.objects) vs → Still l.common (words_of l.objects) vs (first_shown (unlike_rule (length (words_of l.objects) + 1) (row_from 1 vs) hs)) (first_shown (unlike_rule (length (words_of l.objects) + 1) (row_from 1 vs) hs) (row_from 1 vs)) l.cursor)

abbrev pub decreases-loop-cursor : goal.decreases-loop-cursor
decreases-loop-cursor l = length (words_of l.objects) - l.cursor.at
