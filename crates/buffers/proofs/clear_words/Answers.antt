-- `buffers::clear_words` meets its contract.
use Rattle.buffers.proofs.Zeros.{filled-zeroed}
use Rattle.buffers.proofs.clear_words.Goals as goal

pub returns : goal.returns
returns c = filled-zeroed c.args.out.now c.fill.new.self (c.fill.ensures.after (λ y e. e))
