-- `Walk::read_token` meets its contract.
use Rattle.walker.proofs.Walk.read_token.Goals as goal

pub returns : goal.returns
returns c = simp (c.with_registers.ensures, c.read_token.ensures)
