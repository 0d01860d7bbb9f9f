-- `verdict::opened` meets its contract: what is left to look at opens exactly if all does.
use Prim.Native.Nat.{◌≤◌, ◌-◌}
use mathlib.Core.Path.{◌≡◌}
use lib.ListN.{take, drop}
use Rattle.base.specs.Common.{member as listed}
use Rattle.verdict.specs.Told.{some_in}
use Rattle.verdict.proofs.opened.Given as goal

abbrev pub invariant-loop-i : goal.invariant-loop-i
invariant-loop-i l = (l.i ≤ l.to) × (some_in l.facts l.m l.r (λ v. listed v (take (l.to - l.from) (drop l.from l.cells))) ≡ some_in l.facts l.m l.r (λ v. listed v (take (l.to - l.i) (drop l.i l.cells))))

abbrev pub decreases-loop-i : goal.decreases-loop-i
decreases-loop-i l = l.to - l.i
