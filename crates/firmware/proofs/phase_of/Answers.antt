-- `firmware::phase_of` meets its contract: by the numbers.
use mathlib.Core.Path.{ap}
use borrow.Author.Tests.{ne_eqb}
use Rattle.machine.specs.Form as form
use Rattle.machine.specs.Walk as machine
use Rattle.walker.specs.View as view
use Rattle.firmware.proofs.phase_of.Goals as goal

pub returns-in-0 : goal.returns-in-0
unfolding view.phase_of form.phase_of
returns-in-0 c = rw c.in-0.is

pub returns-in-1 : goal.returns-in-1
unfolding view.phase_of form.phase_of
returns-in-1 c = rw c.in-1.is

pub returns-in_default : goal.returns-in_default
unfolding view.phase_of form.phase_of
returns-in_default c =
    let p = c.args.p in
    let r = c.in_default.in_default-own.rest in
    rw (ne_eqb p 0 r.0.1, ne_eqb p 1 r.1) (ap machine.stopped c.reason_of.ensures)
