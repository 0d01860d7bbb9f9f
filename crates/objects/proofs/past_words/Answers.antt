-- `objects::past_words` meets its contract: n words on are within the words, or there are fewer.
use native.Mathlib.Omega.{arith}
use Rattle.objects.proofs.Ends.{some_words_lem, no_words}
use Rattle.objects.proofs.past_words.Goals as goal

pub returns-then-n-total-clause-ends : goal.returns-then-n-total-clause-ends
returns-then-n-total-clause-ends c = some_words_lem _ (omega arith)

pub returns-else-n-total-clause-ends : goal.returns-else-n-total-clause-ends
returns-else-n-total-clause-ends c = no_words _ (omega arith) (omega arith)
