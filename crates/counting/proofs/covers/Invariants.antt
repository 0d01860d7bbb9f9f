-- `counting::covers` meets its contract: the words up to j are the same.
use mathlib.Core.Path.{◌≡◌}
use Prim.Native.Nat.{◌≤◌}
use lib.ListN.{drop}
use Rattle.base.specs.Common.{same}
use Rattle.figures.specs.Figures.{bits_of}
use Rattle.figures.specs.Form.{numbers_at}
use Rattle.machine.specs.Bytes.{words_of}
use Rattle.counting.proofs.covers.Given as goal

abbrev pub invariant-loop-j : goal.invariant-loop-j
invariant-loop-j l = (l.j ≤ 64) × (same (numbers_at (words_of l.s) 4096 64) (bits_of 64 l.counts) ≡ same (drop l.j (numbers_at (words_of l.s) 4096 64)) (drop l.j (bits_of 64 l.counts)))
