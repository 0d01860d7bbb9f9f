-- What `fault_word` hands back of a refusal is a word of the text.
use Rattle.acceptance.proofs.Refusals.{refusal-shown, refusal-shows}
use Rattle.translator.specs.Answered.{answered, fault_word, FaultShown}

pub fault-shown : FaultShown
unfolding answered fault_word
fault-shown text room number at f e = refusal-shows (refusal-shown text room number at e)
