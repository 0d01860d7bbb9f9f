use Rattle.translator.specs.Answered.{fault_word}
use Rattle.translator.proofs.fault_word.Goals as goal

-- src/lib.rt:48:1
pub returns : goal.returns
unfolding fault_word
returns c = c.part.ensures
