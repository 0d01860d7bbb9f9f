-- `reader::look` meets its contract.
use Rattle.reader.proofs.Laws.{here}
use Rattle.reader.proofs.look.Goals as goal

pub returns : goal.returns
returns c = here c.requires c.next_word.ensures
