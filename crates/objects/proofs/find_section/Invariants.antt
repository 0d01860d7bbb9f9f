-- `objects::find_section` meets its contract: the declarations passed are no such section.
use Rattle.machine.specs.Bytes.{words_of}
use Rattle.objects.proofs.Sections.{Seeks}
use Rattle.objects.specs.Places.{NameAt}
use Rattle.objects.specs.View.{Name}
use Rattle.objects.proofs.find_section.Given as goal

abbrev pub invariant-loop-i : goal.invariant-loop-i
invariant-loop-i l = (m : Name) → NameAt (words_of l.objects) l.p m → Seeks l.text l.rows m.text l.n l.i
