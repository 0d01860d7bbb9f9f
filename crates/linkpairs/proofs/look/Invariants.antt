-- `linkpairs::look` meets its contract: the pairs passed are others.
use mathlib.Core.List.{List}
use mathlib.Core.Path.{◌≡◌}
use lib.ListN.{length}
use Rattle.linkpairs.proofs.Looking.{Looking}
use Rattle.linkpairs.specs.Standing.{PairAt, Stand}
use Rattle.machine.specs.Bytes.{words_of}
use Rattle.names.specs.Uses.{Use}
use Rattle.linkpairs.proofs.look.Given as goal

abbrev pub invariant-loop-i : goal.invariant-loop-i
invariant-loop-i l = (us : List Use) (u : Use) → l.count ≡ length us → Stand (words_of l.objects) l.sites 0 us → PairAt (words_of l.objects) l.p u → Looking (words_of l.objects) l.sites us u l.count l.i
