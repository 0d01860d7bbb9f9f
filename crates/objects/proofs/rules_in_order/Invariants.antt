-- `objects::rules_in_order` meets its contract: those passed are in order.
use Prim.Native.Nat.{◌-◌, ◌≤◌}
use Rattle.machine.specs.Bytes.{words_of}
use Rattle.objects.proofs.Every.{Passing}
use Rattle.objects.proofs.Views.{rule-exact}
use Rattle.objects.specs.Order.{rule_in_order}
use Rattle.objects.specs.Places.{HeadsAt, PartsAt}
use Rattle.objects.specs.View.{View}
use Rattle.syntax.specs.Texts.{Head}
use lib.ListN.{length}
use mathlib.Core.List.{List}
use Rattle.objects.proofs.rules_in_order.Given as goal

abbrev pub invariant-loop : goal.invariant-loop
invariant-loop l =
    (l.q ≤ length (words_of l.objects))
    × ((hs : List Head) (v : View) → HeadsAt l.common l.heads hs → (x : PartsAt (words_of l.objects) l.scope.pairs.at l.scope.pairs.count l.scope.rules.at l.scope.rules.count v)
    → Passing rule-exact (words_of l.objects) (rule_in_order hs v.pairs) v.rules x.behind (l.scope.rules.count - l.counter) l.q)
