-- `objects::check` meets its contract: the objects passed are in order, and the words left decide.
use Prim.Native.Nat.{◌*◌, ◌-◌, ◌≤◌}
use Rattle.machine.specs.Bytes.{words_of}
use Rattle.names.specs.Known.{Names}
use Rattle.objects.proofs.Checking.{Checking}
use Rattle.objects.specs.Places.{HeadsAt, SectionsAt}
use Rattle.syntax.specs.Texts.{Head}
use lib.ListN.{length}
use mathlib.Core.List.{List}
use Rattle.objects.proofs.check.Given as goal

abbrev pub invariant-loop-at : goal.invariant-loop-at
invariant-loop-at l =
    (l.at ≤ length (words_of l.objects)) × (7 * l.good ≤ l.at)
    × ((hs : List Head) (m : Names) → HeadsAt l.common l.heads hs → SectionsAt l.text l.rows l.n m → Checking l.common hs m (words_of l.objects) l.at l.good)

abbrev pub decreases-loop-at : goal.decreases-loop-at
decreases-loop-at l = length (words_of l.objects) - l.at
