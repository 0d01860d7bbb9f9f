-- `counting::bits_of` meets its contract: the bits of the counts from i on.
use Rattle.counting.proofs.Form.{Packs}
use Rattle.counting.proofs.bits_of.Given as goal

abbrev pub invariant-loop-i : goal.invariant-loop-i
invariant-loop-i l = Packs l.counts l.j l.w l.i
