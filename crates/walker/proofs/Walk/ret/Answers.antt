-- `Walk::ret` meets its contract.
use Rattle.walker.proofs.Walk.ret.Goals as goal

pub returns : goal.returns
returns c = simp (c.with_registers.ensures, c.popped_to.ensures, c.from.ensures)
