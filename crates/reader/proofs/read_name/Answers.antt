-- `reader::read_name` meets its contract.
use Rattle.reader.proofs.read_name.Goals as goal

pub returns : goal.returns
returns c = c.check_name.ensures _ _ c.look-w.ensures
