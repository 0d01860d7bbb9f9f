-- `firmware::sst_fresh` meets its contract: by the length.
use mathlib.Core.Path.{ap, ◌∙◌}
use lib.ListN.{length}
use borrow.Author.Tests.{eq-eqb, ne_eqb}
use Rattle.machine.specs.Form.{walk_bytes}
use Rattle.firmware.specs.Entries.{fresh_number, fresh_in}
use Rattle.firmware.proofs.sst_fresh.Goals as goal

pub returns-then-walk-eq-WALK_BYTES : goal.returns-then-walk-eq-WALK_BYTES
unfolding fresh_number fresh_in
returns-then-walk-eq-WALK_BYTES c =
    let e = eq-eqb (length c.args.walk.now) 158 c.if-walk-eq-WALK_BYTES.true in
    (rw e, rw e (c.put_walk.ensures ∙ ap walk_bytes c.fresh_walk.ensures.0))

pub returns-else-walk-eq-WALK_BYTES : goal.returns-else-walk-eq-WALK_BYTES
unfolding fresh_number fresh_in
returns-else-walk-eq-WALK_BYTES c =
    let e = ne_eqb (length c.args.walk.now) 158 c.if-walk-eq-WALK_BYTES.false in
    (rw e, rw e)
