-- `firmware::sst_turn_paused` meets its contract: the call over the bytes of the book's walk, then the steps left.
use mathlib.Core.Path.{refl, sym, ◌∙◌}
use Prim.Native.Nat.{◌+◌, ◌*◌}
use native.Mathlib.Omega.{arith}
use Rattle.firmware.specs.Entries.{handing}
use Rattle.screen.proofs.Turns.{book-in}
use Rattle.firmware.proofs.Screens.{enough, turned, turned-away}
use Rattle.firmware.proofs.sst_turn_paused.Goals as goal

pub returns-then-not-is_book : goal.returns-then-not-is_book
returns-then-not-is_book c = turned-away _ _ _ _ _ _ (sym c.is_book.ensures ∙ c.if-not-is_book.true) c.refuse.ensures

pub read_64-left-requires : goal.read_64-left-requires
read_64-left-requires c =
    let k = book-in c.args.book c.args.screen.now (sym c.is_book.ensures ∙ c.if-not-is_book.false) in
    omega (arith, k.0, c.left_word-place.ensures)

pub slice_bounds-sst_paused-end : goal.slice_bounds-sst_paused-end
slice_bounds-sst_paused-end c = let k = book-in c.args.book c.args.screen.now (sym c.is_book.ensures ∙ c.if-not-is_book.false) in omega (arith, k.0, k.1)

pub overflow_sub-left : goal.overflow_sub-left
overflow_sub-left c =
    let a = c.args in
    enough a.table.now a.tokens.now (handing a.given a.answer) _ a.events.now c.sst_paused-n.ensures

pub put_64-requires : goal.put_64-requires
put_64-requires c =
    let k = book-in c.args.book c.args.screen.now (sym c.is_book.ensures ∙ c.if-not-is_book.false) in
    omega (arith, k.0, k.1, c.left_word-place.ensures)

pub returns : goal.returns
returns c =
    let a = c.args in
    turned a.table.now a.tokens.now (handing a.given a.answer) a.book a.screen.now a.events.now (sym c.is_book.ensures ∙ c.if-not-is_book.false) _ _ _ (a.book * 166) (a.book * 166 + 158)
    c.left_word-place.result c.read_64-left.result _ _ _ refl refl c.left_word-place.ensures c.read_64-left.ensures c.sst_paused-n.ensures c.put_64.ensures
