-- `partnames::fill_feeds` meets its contract.
use Rattle.partnames.proofs.Copied.{filled_part}
use Rattle.partnames.proofs.fill_feeds.Goals as goal

pub returns : goal.returns
returns c = filled_part c.args.buffer.now c.fill.new.self c.args.at c.args.end c.requires.0 c.requires.1 (c.fill.ensures.after (λ _ e. e))
