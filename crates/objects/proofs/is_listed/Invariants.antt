-- `objects::is_listed` meets its contract: the lines passed have another name, so that those left decide.
use mathlib.Core.List.{List}
use mathlib.Core.Path.{◌≡◌}
use lib.ListN.{drop}
use Rattle.machine.specs.Bytes.{words_of}
use Rattle.syntax.specs.Texts.{Head}
use Rattle.objects.specs.Order.{is_listed}
use Rattle.objects.specs.Places.{NameAt, HeadsAt}
use Rattle.objects.specs.View.{Name}
use Rattle.objects.proofs.is_listed.Given as goal

abbrev pub invariant-loop-i : goal.invariant-loop-i
invariant-loop-i l = (hs : List Head) (n : Name) → HeadsAt l.common l.heads hs → NameAt (words_of l.objects) l.p n → is_listed hs n ≡ is_listed (drop l.i hs) n
