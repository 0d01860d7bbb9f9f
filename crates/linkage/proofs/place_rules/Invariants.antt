-- `linkage::place_rules` meets its contract.
use mathlib.Core.List.{List}
use mathlib.Core.Path.{◌≡◌}
use Prim.Native.Nat.{◌-◌, ◌≤◌}
use lib.ListN.{length}
use Rattle.linkchecks.specs.Row.{row_from}
use Rattle.linkchecks.specs.Walk.{Viewed}
use Rattle.machine.specs.Bytes.{words_of}
use Rattle.objects.specs.View.{View}
use Rattle.linkage.proofs.Placing.{Placing}
use Rattle.linkage.proofs.place_rules.Given as goal

abbrev pub invariant-loop-cursor : goal.invariant-loop-cursor
invariant-loop-cursor l =
    (l.cursor.at ≤ length (words_of l.objects)) × (l.cursor.text ≤ l.cursor.at) × (l.k ≤ l.cursor.at) × (l.start ≤ 65535) × (length l.starts ≡ length l.initial.starts) × (length l.sorts ≡ length l.initial.sorts)
    × ((vs : List View) → Viewed l.common (words_of l.objects) vs → Placing l.common (words_of l.objects) vs (row_from 1 vs) l.starts l.sorts l.cursor l.k l.start)

abbrev pub decreases-loop-cursor : goal.decreases-loop-cursor
decreases-loop-cursor l = length (words_of l.objects) - l.cursor.at
