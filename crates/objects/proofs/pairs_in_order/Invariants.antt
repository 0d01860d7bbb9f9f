-- `objects::pairs_in_order` meets its contract: those passed are in order.
use Prim.Native.Nat.{◌-◌, ◌≤◌}
use Rattle.machine.specs.Bytes.{words_of}
use Rattle.names.specs.Known.{Names}
use Rattle.objects.proofs.Every.{Passing}
use Rattle.objects.proofs.Views.{pair-exact}
use Rattle.objects.specs.Places.{HeadsAt, SectionsAt, PartsAt}
use Rattle.objects.specs.View.{View}
use Rattle.objects.specs.Whole.{pair_in_order}
use Rattle.syntax.specs.Texts.{Head}
use lib.ListN.{length}
use mathlib.Core.List.{List}
use Rattle.objects.proofs.pairs_in_order.Given as goal

abbrev pub invariant-loop : goal.invariant-loop
invariant-loop l =
    (l.q ≤ length (words_of l.objects))
    × ((hs : List Head) (n : Names) (v : View) → HeadsAt l.common l.heads hs → SectionsAt l.text l.rows l.scope.declared n → (x : PartsAt (words_of l.objects) l.scope.pairs.at l.scope.pairs.count l.scope.rules.at l.scope.rules.count v)
    → Passing pair-exact (words_of l.objects) (pair_in_order hs n v.rules) v.pairs x.between (l.scope.pairs.count - l.counter) l.q)
