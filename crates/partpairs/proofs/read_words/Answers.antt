-- `partpairs::read_words` meets its contract.
use Rattle.partpairs.proofs.Taking.{words-read}
use Rattle.partpairs.proofs.read_words.Goals as goal

pub returns : goal.returns
returns c = words-read _ _ c.next_word-sign.ensures c.next_word-section.ensures c.next_word-call.ensures c.next_word-operand.ensures
