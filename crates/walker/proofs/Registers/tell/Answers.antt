-- `Registers::tell` meets its contract.
use borrow.Author.Tests.{le-leb, lt-leb}
use Rattle.walker.specs.Shape.{tell_of}
use Rattle.walker.proofs.Registers.tell.Goals as goal

pub returns-then-room-ge-EVENT_WORDS : goal.returns-then-room-ge-EVENT_WORDS
unfolding tell_of
returns-then-room-ge-EVENT_WORDS c = simp (le-leb _ _ c.if-room-ge-EVENT_WORDS.true, c.moved.ensures)

pub returns-else-room-ge-EVENT_WORDS : goal.returns-else-room-ge-EVENT_WORDS
unfolding tell_of
returns-else-room-ge-EVENT_WORDS c = simp (lt-leb _ _ c.if-room-ge-EVENT_WORDS.false)
