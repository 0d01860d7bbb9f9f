-- `Registers::answer` meets its contract.
use Prim.Native.Nat.{◌<◌, ◌≤◌}
use native.Mathlib.Omega.{arith}
use borrow.Author.Tests.{lt-ltb, le-ltb, le-leb, lt-leb}
use Rattle.machine.specs.Bytes.{count}
use Rattle.walker.specs.Shape.{ask_of, answer_of}
use Rattle.walker.proofs.Registers.answer.Goals as goal

pub returns-then-n-loc : goal.returns-then-n-loc
returns-then-n-loc c = absurd (omega (arith, c.if-n-loc.true, c.requires.1, c.requires.2))

pub returns-then-room-lt-EVENT_WORDS : goal.returns-then-room-lt-EVENT_WORDS
unfolding ask_of answer_of
returns-then-room-lt-EVENT_WORDS c = simp (lt-leb _ _ c.if-room-lt-EVENT_WORDS.true)

pub returns-then-paused : goal.returns-then-paused
unfolding ask_of answer_of
returns-then-paused c = simp (le-leb _ _ c.if-room-lt-EVENT_WORDS.false, c.if-paused.true, c.moved.ensures, c.requires.2)

pub returns-then-k-count_words : goal.returns-then-k-count_words
unfolding ask_of answer_of
returns-then-k-count_words c =
    let a = c.args in
    let h : a.self.used < count a.answers.now = omega (arith, c.count_words.ensures, c.if-k-count_words.true) in
    simp (le-leb _ _ c.if-room-lt-EVENT_WORDS.false, c.if-paused.false, lt-ltb _ _ h, c.give_answer.ensures, c.word.ensures, c.moved-then-k-count_words.ensures, c.requires.2)

pub returns-else-k-count_words : goal.returns-else-k-count_words
unfolding ask_of answer_of
returns-else-k-count_words c =
    let a = c.args in
    let h : count a.answers.now ≤ a.self.used = omega (arith, c.count_words.ensures) in
    simp (le-leb _ _ c.if-room-lt-EVENT_WORDS.false, c.if-paused.false, le-ltb _ _ h)
