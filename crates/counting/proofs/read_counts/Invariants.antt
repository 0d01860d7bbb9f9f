-- `counting::read_counts` meets its contract: after i turns the first i counts stand there.
use mathlib.Core.Path.{◌≡◌}
use Prim.Native.Nat.{◌≤◌}
use lib.ListN.{length, take}
use Rattle.figures.specs.Form.{numbers_at}
use Rattle.machine.specs.Bytes.{words_of}
use Rattle.counting.proofs.read_counts.Given as goal

abbrev pub invariant-loop-i : goal.invariant-loop-i
invariant-loop-i l = (l.i ≤ 4096) × ((length l.counts ≡ 4096) × (take l.i l.counts ≡ take l.i (numbers_at (words_of l.s) 0 4096)))
