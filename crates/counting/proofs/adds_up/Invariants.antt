-- `counting::adds_up` meets its contract: what is left of the total and the counts so far are the total.
use mathlib.Core.Path.{◌≡◌}
use Prim.Native.Nat.{◌+◌, ◌≤◌}
use lib.ListN.{length, take}
use Rattle.figures.specs.Figures.{sum}
use Rattle.counting.proofs.adds_up.Given as goal

abbrev pub invariant-loop-count : goal.invariant-loop-count
invariant-loop-count l = (l.count-index ≤ length l.counts) × (l.left + sum (take l.count-index l.counts) ≡ l.total)
