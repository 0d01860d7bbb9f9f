-- `carrier::carry_walk` meets its contract: the return locations before i are carried, the others as they were.
use Rattle.carrier.specs.Held.{place_held}
use Rattle.carrier.proofs.Walks.{Moving}
use Rattle.carrier.proofs.carry_walk.Given as goal
use Prim.Native.Nat.{min}

abbrev pub invariant-loop-i : goal.invariant-loop-i
invariant-loop-i l = Moving (place_held l.old.table.now l.new.table.now l.old.text.now l.old.sheet.now l.new.text.now l.new.sheet.now) (min l.fn.walk.at.depth 64) l.fn.walk.returns l.returns l.i
