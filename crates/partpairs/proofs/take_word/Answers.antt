-- `partpairs::take_word` meets its contract.
use Rattle.partpairs.proofs.Taking.{word-caret, word-other}
use Rattle.partpairs.proofs.take_word.Goals as goal

pub returns-then-w-eq-CARET : goal.returns-then-w-eq-CARET
returns-then-w-eq-CARET c = word-caret c.if-w-eq-CARET.true c.take_use.ensures

pub returns-else-w-eq-CARET : goal.returns-else-w-eq-CARET
returns-else-w-eq-CARET c = word-other c.if-w-eq-CARET.false c.requires.5
