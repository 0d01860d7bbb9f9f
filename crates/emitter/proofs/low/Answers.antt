use Rattle.emitter.specs.Words.{cut}
use borrow.Author.Rules.{rules}
use Rattle.emitter.proofs.low.Goals as goal

-- src/lib.rt:25:1
pub returns : goal.returns
unfolding cut
returns c = search rules
