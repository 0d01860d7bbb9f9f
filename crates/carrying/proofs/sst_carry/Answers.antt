-- `carrying::sst_carry` meets its contract: the walk that the bytes are is carried, and what it becomes is written.
use Rattle.machine.proofs.Form.{walk_of-length}
use Rattle.carrying.proofs.Told.{no_walk, walk-carried, walk_kept}
use Rattle.carrying.proofs.sst_carry.Goals as goal

pub returns-in_default : goal.returns-in_default
returns-in_default c = no_walk c.args.old.now c.args.new.now c.args.walk.now c.in_default.ensures.no_walk

pub put_walk-requires : goal.put_walk-requires
put_walk-requires c = (walk_of-length _ _ (λ i. (c.slice_known-1.given i).fits) c.in-Some.ensures.walk.walk, c.carry-r.ensures.location c.if-r-eq0.true)

pub returns-then-r-eq0 : goal.returns-then-r-eq0
returns-then-r-eq0 c = walk-carried c.args.old.now c.args.new.now c.args.walk.now c.in-Some.ensures.walk.walk c.carry-r.ensures _ c.if-r-eq0.true c.put_walk.ensures

pub returns-else-r-eq0 : goal.returns-else-r-eq0
returns-else-r-eq0 c = walk_kept c.args.old.now c.args.new.now c.args.walk.now c.in-Some.ensures.walk.walk c.carry-r.ensures c.if-r-eq0.false
