-- `From<Ending> for u16` meets its contract.
use borrow.Author.Rules.{rules}
use Rattle.walker.specs.Shape.{ending_number}
use Rattle.walker.proofs.U16FromEnding.from.Goals as goal

pub returns-in-Stopped : goal.returns-in-Stopped
unfolding ending_number
returns-in-Stopped c = search rules

pub returns-in-Refused : goal.returns-in-Refused
unfolding ending_number
returns-in-Refused c = search rules

pub returns-in-Waits : goal.returns-in-Waits
unfolding ending_number
returns-in-Waits c = search rules

pub returns-in-Full : goal.returns-in-Full
unfolding ending_number
returns-in-Full c = search rules

pub returns-in-Spent : goal.returns-in-Spent
unfolding ending_number
returns-in-Spent c = search rules
