-- `From<Reason> for u16` meets its contract.
use borrow.Author.Rules.{rules}
use Rattle.walker.specs.Shape.{number_of}
use Rattle.walker.proofs.U16FromReason.from.Goals as goal

pub returns-in-Finished : goal.returns-in-Finished
unfolding number_of
returns-in-Finished c = search rules

pub returns-in-Differs : goal.returns-in-Differs
unfolding number_of
returns-in-Differs c = search rules

pub returns-in-Missing : goal.returns-in-Missing
unfolding number_of
returns-in-Missing c = search rules

pub returns-in-Unlabelled : goal.returns-in-Unlabelled
unfolding number_of
returns-in-Unlabelled c = search rules

pub returns-in-Deep : goal.returns-in-Deep
unfolding number_of
returns-in-Deep c = search rules

pub returns-in-Unanswered : goal.returns-in-Unanswered
unfolding number_of
returns-in-Unanswered c = search rules

pub returns-in-Outside : goal.returns-in-Outside
unfolding number_of
returns-in-Outside c = search rules
