-- `carrier::same_sections` meets its contract.
use Prim.Native.Nat.{◌-◌}
use lib.ListN.{length}
use Rattle.carrier.proofs.Stepping.{Steps}
use Rattle.carrier.proofs.same_sections.Given as goal

abbrev pub invariant-loop-w : goal.invariant-loop-w
invariant-loop-w l = Steps l.old l.new l.i l.j

abbrev pub decreases-loop-w : goal.decreases-loop-w
decreases-loop-w l = length l.old - l.i
