-- `put_event` meets its contract.
use Rattle.walker.specs.Shape.{put_event}
use Rattle.walker.proofs.put_event.Goals as goal

pub returns-in-Output : goal.returns-in-Output
unfolding put_event
returns-in-Output c = rw c.in-Output.is c.put_three.ensures

pub returns-in-Error : goal.returns-in-Error
unfolding put_event
returns-in-Error c = rw c.in-Error.is c.put_three-in-Error.ensures

pub returns-in-Repair : goal.returns-in-Repair
unfolding put_event
returns-in-Repair c = rw c.in-Repair.is c.put_three-in-Repair.ensures

pub returns-in-Plain : goal.returns-in-Plain
unfolding put_event
returns-in-Plain c = rw c.in-Plain.is c.put_three-in-Plain.ensures

pub returns-in-With : goal.returns-in-With
unfolding put_event
returns-in-With c = rw c.in-With.is c.put_three-in-With.ensures
