-- `firmware::sst_screen_fresh` meets its contract: both books begin.
use mathlib.Core.Path.{sym}
use native.Mathlib.Omega.{arith}
use lib.Seq.{length-take-le}
use Rattle.screen.proofs.Turns.{screen-is, screen-not}
use Rattle.screen.specs.Screen.{screen_number, fresh_bytes}
use Rattle.firmware.proofs.Screens.{screen-put}
use Rattle.firmware.proofs.sst_screen_fresh.Goals as goal

-- `firmware::sst_screen_fresh` meets its contract: both books begin.
pub returns-then-screen-ne-SCREEN_BYTES : goal.returns-then-screen-ne-SCREEN_BYTES
unfolding screen_number fresh_bytes
returns-then-screen-ne-SCREEN_BYTES c = let e = screen-not c.args.screen.now c.if-screen-ne-SCREEN_BYTES.true in (rw e, rw e)

pub slice_bounds-fresh_book-end-2 : goal.slice_bounds-fresh_book-end-2
slice_bounds-fresh_book-end-2 c = sym (length-take-le 166 c.args.screen.now (omega arith))

pub fresh_book-requires : goal.fresh_book-requires
fresh_book-requires c = length-take-le 166 c.args.screen.now (omega (arith, c.if-screen-ne-SCREEN_BYTES.false))

pub returns : goal.returns
unfolding screen_number
returns c =
    let e = screen-is c.args.screen.now c.if-screen-ne-SCREEN_BYTES.false in
    (rw e, screen-put c.args.allowance_0 c.args.allowance_1 c.args.screen.now _ _ c.if-screen-ne-SCREEN_BYTES.false c.fresh_book.ensures c.fresh_book-2.ensures)
