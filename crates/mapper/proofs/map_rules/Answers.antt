-- `mapper::map_rules` meets its contract.
use Rattle.mapper.proofs.Answers.{text-wrong}
use Rattle.reader.proofs.Laws.{not_none}
use Rattle.mapper.proofs.map_rules.Goals as goal

pub returns-in-Err : goal.returns-in-Err
returns-in-Err c = rw c.from.ensures (text-wrong _ c.in-Err.ensures (not_none _))
