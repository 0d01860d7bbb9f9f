-- `levels::name_of` meets its contract.
use Rattle.levels.proofs.Naming.{name-is}
use Rattle.levels.proofs.name_of.Goals as goal

pub returns : goal.returns
returns c = λ nm. name-is _ c.args.w c.requires c.next_word-s.ensures c.next_word-c.ensures c.next_word-o.ensures c.saturating_sub.ensures nm
