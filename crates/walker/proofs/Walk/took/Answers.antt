-- `Walk::took` meets its contract, by what the instruction did.
use mathlib.Core.Path.{subst}
use Rattle.walker.specs.Steps.{Holds, took_of}
use Rattle.walker.proofs.Walk.took.Goals as goal

pub push-requires : goal.push-requires
push-requires c = simp c.with_registers-in-Push.ensures (subst Holds c.in-Push.is c.requires)

pub returns-in-Full : goal.returns-in-Full
unfolding took_of
returns-in-Full c = simp (c.in-Full.is, c.says.ensures)

pub returns-in-Outside : goal.returns-in-Outside
unfolding took_of
returns-in-Outside c = simp (c.in-Outside.is, c.says-in-Outside.ensures, c.in_phase.ensures)

pub returns-in-Stop : goal.returns-in-Stop
unfolding took_of
returns-in-Stop c = simp (c.in-Stop.is, c.says-in-Stop.ensures, c.in_phase-in-Stop.ensures)

pub returns-in-On : goal.returns-in-On
unfolding took_of
returns-in-On c = simp (c.in-On.is, c.says-in-On.ensures, c.with_registers.ensures)

pub returns-in-Tells : goal.returns-in-Tells
unfolding took_of
returns-in-Tells c = simp (c.in-Tells.is, c.says-in-Tells.ensures, c.with_registers-in-Tells.ensures)

pub returns-in-Push : goal.returns-in-Push
unfolding took_of
returns-in-Push c = simp (c.in-Push.is, c.says-in-Push.ensures, c.push.ensures, c.with_registers-in-Push.ensures)

pub returns-in-Waits : goal.returns-in-Waits
unfolding took_of
returns-in-Waits c = simp (c.in-Waits.is, c.says-in-Waits.ensures, c.in_phase-in-Waits.ensures, c.with_registers-in-Waits.ensures)
