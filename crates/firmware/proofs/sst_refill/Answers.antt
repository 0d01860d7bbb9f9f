-- `firmware::sst_refill` meets its contract: by the length and the book.
use mathlib.Core.Path.{sym, ap, ◌∙◌}
use native.Mathlib.Omega.{arith}
use Rattle.buffers.specs.Words.{put64}
use Rattle.screen.proofs.Turns.{book-in}
use Rattle.screen.specs.Screen.{refill_number, refill_bytes}
use Rattle.firmware.proofs.Screens.{left-put}
use Rattle.firmware.proofs.sst_refill.Goals as goal

pub returns-then-not-is_book : goal.returns-then-not-is_book
unfolding refill_number refill_bytes
returns-then-not-is_book c = let e = sym c.is_book.ensures ∙ c.if-not-is_book.true in (rw e, rw e)

pub put_64-requires : goal.put_64-requires
put_64-requires c =
    let k = book-in c.args.book c.args.screen.now (sym c.is_book.ensures ∙ c.if-not-is_book.false) in
    omega (arith, k.0, k.1, c.left_word.ensures)

pub returns : goal.returns
unfolding refill_number refill_bytes
returns c =
    let a = c.args in
    let e = sym c.is_book.ensures ∙ c.if-not-is_book.false in
    let k = book-in a.book a.screen.now e in
    (rw e, rw e (c.put_64.ensures ∙ ap (λ i. put64 a.screen.now i a.left) c.left_word.ensures ∙ left-put a.book a.left a.screen.now k.0 k.1))
