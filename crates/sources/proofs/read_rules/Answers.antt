-- `sources::read_rules` meets its contract.
use Rattle.sources.proofs.Answers.{text-wrong}
use Rattle.reader.proofs.Laws.{not_none}
use Rattle.sources.proofs.read_rules.Goals as goal

pub returns-in-Err : goal.returns-in-Err
returns-in-Err c = rw c.from.ensures (text-wrong _ c.in-Err.ensures (not_none _))
