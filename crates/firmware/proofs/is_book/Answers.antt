-- `firmware::is_book` meets its contract.
use borrow.Author.Tests.{lt-ltb, le-ltb}
use Rattle.screen.specs.Screen.{is_screen, is_book}
use Rattle.firmware.proofs.is_book.Goals as goal

-- `firmware::is_book` meets its contract.
pub returns-then-book-lt-BOOKS : goal.returns-then-book-lt-BOOKS
unfolding is_book is_screen
returns-then-book-lt-BOOKS c = rw (lt-ltb c.args.book 2 c.if-book-lt-BOOKS.true)

pub returns-else-book-lt-BOOKS : goal.returns-else-book-lt-BOOKS
unfolding is_book is_screen
returns-else-book-lt-BOOKS c = rw (le-ltb c.args.book 2 c.if-book-lt-BOOKS.false)
