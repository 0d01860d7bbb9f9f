-- `firmware::fresh_book` meets its contract: a walk, and no steps left.
use mathlib.Core.Path.{sym, ap, ◌∙◌}
use native.Mathlib.Omega.{arith}
use lib.Seq.{length-take-le}
use Rattle.machine.specs.Form.{walk_bytes}
use Rattle.firmware.proofs.Screens.{book-put}
use Rattle.firmware.proofs.fresh_book.Goals as goal

pub slice_bounds-put_walk-end-2 : goal.slice_bounds-put_walk-end-2
slice_bounds-put_walk-end-2 c = sym (length-take-le 158 c.args.seat.now (omega arith))

pub put_walk-requires : goal.put_walk-requires
put_walk-requires c = (length-take-le 158 c.args.seat.now (omega (arith, c.requires)), c.fresh_walk.ensures.1)

pub returns : goal.returns
returns c = book-put c.args.allowance c.args.seat.now _ _ c.requires (c.put_walk.ensures ∙ ap walk_bytes c.fresh_walk.ensures.0) c.put_64.ensures
