-- `machine::count_words` meets its contract.
use borrow.Author.Rules.{rules}
use Rattle.machine.specs.Bytes.{count}
use Rattle.machine.proofs.count_words.Goals as goal

-- `machine::count_words` meets its contract.
pub returns : goal.returns
unfolding count
returns c = search rules
