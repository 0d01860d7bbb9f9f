-- `counting::figure` meets its contract.
use mathlib.Core.Path.{◌∙◌}
use native.Mathlib.Omega.{arith}
use Rattle.counting.proofs.Form.{a-count, a_word, the-books, the-total}
use Rattle.counting.proofs.figure.Goals as goal

pub returns-then-i-lt-BITS_NUMBER : goal.returns-then-i-lt-BITS_NUMBER
returns-then-i-lt-BITS_NUMBER c =
    let a = c.args in
    a-count a.counts.now a.books a.total c.requires.0 a.i c.if-i-lt-BITS_NUMBER.true

pub returns-then-i-lt-BOOKS_NUMBER : goal.returns-then-i-lt-BOOKS_NUMBER
returns-then-i-lt-BOOKS_NUMBER c =
    let a = c.args in
    c.bits_of.ensures ∙ a_word a.counts.now a.books a.total c.requires.0 a.i c.if-i-lt-BITS_NUMBER.false c.if-i-lt-BOOKS_NUMBER.true

pub returns-then-i-lt-TOTAL_NUMBER : goal.returns-then-i-lt-TOTAL_NUMBER
returns-then-i-lt-TOTAL_NUMBER c =
    let a = c.args in
    the-books a.counts.now a.books a.total c.requires.0 a.i (omega (arith, c.if-i-lt-BOOKS_NUMBER.false, c.if-i-lt-TOTAL_NUMBER.true))

pub returns-else-i-lt-TOTAL_NUMBER : goal.returns-else-i-lt-TOTAL_NUMBER
returns-else-i-lt-TOTAL_NUMBER c =
    let a = c.args in
    the-total a.counts.now a.books a.total c.requires.0 a.i (omega (arith, c.requires.1, c.if-i-lt-TOTAL_NUMBER.false))
