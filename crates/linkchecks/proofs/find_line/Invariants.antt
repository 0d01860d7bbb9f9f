-- `linkchecks::find_line` meets its contract: the lines passed have other names.
use mathlib.Core.List.{List}
use mathlib.Core.Path.{◌≡◌}
use Prim.Native.Nat.{◌+◌}
use lib.ListN.{drop}
use Rattle.machine.specs.Bytes.{words_of}
use Rattle.objects.specs.View.{Name}
use Rattle.objects.specs.Places.{NameAt, HeadsAt}
use Rattle.syntax.specs.Texts.{Head}
use Rattle.linkchecks.specs.Row.{line_of}
use Rattle.linkchecks.proofs.find_line.Given as goal

abbrev pub invariant-loop-i : goal.invariant-loop-i
invariant-loop-i l =
    (hs : List Head) (n : Name) → HeadsAt l.common l.heads hs → NameAt (words_of l.objects) l.p n → line_of n.text hs ≡ l.i + line_of n.text (drop l.i hs)
