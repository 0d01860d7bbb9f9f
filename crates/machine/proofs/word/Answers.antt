-- `machine::word` meets its contract: within the whole words by the law of `words_of`, past them by the default.
use mathlib.Core.Path.{sym}
use lib.ListN.{get_or-eq_default}
use Rattle.machine.proofs.Bytes.{length-words_of, get_d-words_of}
use Rattle.machine.specs.Bytes.{count, words_of, word_at}
use native.Mathlib.Omega.{arith}
use Rattle.machine.proofs.word.Goals as goal

pub overflow_mul-i : goal.overflow_mul-i
unfolding count
overflow_mul-i c = omega arith

pub bounds-s-i : goal.bounds-s-i
unfolding count
bounds-s-i c = omega arith

pub overflow_mul-i-then-i-count_words : goal.overflow_mul-i-then-i-count_words
unfolding count
overflow_mul-i-then-i-count_words c = omega arith

pub overflow_add-i : goal.overflow_add-i
unfolding count
overflow_add-i c = omega arith

pub bounds-s-i-then-i-count_words : goal.bounds-s-i-then-i-count_words
unfolding count
bounds-s-i-then-i-count_words c = omega arith

pub returns-then-i-count_words : goal.returns-then-i-count_words
unfolding word_at count
returns-then-i-count_words c =
    let a = c.args in
    omega (arith, c.from_be_bytes.ensures, get_d-words_of a.s.now a.i (omega arith))

pub returns-else-i-count_words : goal.returns-else-i-count_words
unfolding count
returns-else-i-count_words c =
    let a = c.args in
    let l = length-words_of a.s.now in
    sym (get_or-eq_default (words_of a.s.now) 0 (omega arith))
