-- `counting::put_figures` meets its contract: after i turns the first i numbers stand there.
use mathlib.Core.Path.{◌≡◌}
use Prim.Native.Nat.{◌*◌, ◌≤◌}
use lib.ListN.{length, take}
use Rattle.counting.specs.Counting.{numbers_of}
use Rattle.machine.specs.Bytes.{bytes_of, over}
use Rattle.figures.specs.Form.{number_words}
use Rattle.counting.proofs.put_figures.Given as goal

abbrev pub invariant-loop-i : goal.invariant-loop-i
invariant-loop-i l =
    (l.i ≤ 4162) × ((length l.out ≡ length l.initial.out) × (l.out ≡ over (bytes_of (take (4 * l.i) (number_words (numbers_of l.counts l.books l.total)))) l.initial.out))
