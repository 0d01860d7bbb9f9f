-- `Walk::give_answer` meets its contract.
use Rattle.walker.proofs.Walk.give_answer.Goals as goal

pub returns : goal.returns
returns c = simp (c.in_phase.ensures, c.with_registers.ensures, c.give_answer.ensures)
