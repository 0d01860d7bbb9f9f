-- `counting::together` meets its contract: after i turns the totals of the first i rows are added.
use mathlib.Core.Path.{◌≡◌}
use Prim.Native.Nat.{◌<◌, ◌≤◌}
use lib.ListN.{take}
use Rattle.counting.proofs.Rules.{all as totals-of}
use Rattle.figures.specs.Figures.{sum}
use Rattle.counting.proofs.together.Given as goal

abbrev pub invariant-loop-i : goal.invariant-loop-i
invariant-loop-i l = (l.i ≤ l.n) × ((l.all < 18446744073709551616) × (l.all ≡ sum (take l.i (totals-of l.rows l.counts l.n l.end))))
