-- `firmware::reason_of` meets its contract: by the numbers.
use borrow.Author.Tests.{ne_eqb}
use Rattle.machine.specs.Form as form
use Rattle.walker.specs.View as view
use Rattle.firmware.proofs.reason_of.Goals as goal

-- `firmware::reason_of` meets its contract: by the numbers.
pub returns-in-30 : goal.returns-in-30
unfolding view.reason_of form.reason_of
returns-in-30 c = rw c.in-30.is

pub returns-in-31 : goal.returns-in-31
unfolding view.reason_of form.reason_of
returns-in-31 c = rw c.in-31.is

pub returns-in-32 : goal.returns-in-32
unfolding view.reason_of form.reason_of
returns-in-32 c = rw c.in-32.is

pub returns-in-33 : goal.returns-in-33
unfolding view.reason_of form.reason_of
returns-in-33 c = rw c.in-33.is

pub returns-in-34 : goal.returns-in-34
unfolding view.reason_of form.reason_of
returns-in-34 c = rw c.in-34.is

pub returns-in-37 : goal.returns-in-37
unfolding view.reason_of form.reason_of
returns-in-37 c = rw c.in-37.is

pub returns-in_default : goal.returns-in_default
unfolding view.reason_of form.reason_of
returns-in_default c =
    let n = c.args.n in
    let r = c.in_default.in_default-own.rest in
    let low = r.0.0.0 in
    rw (ne_eqb n 30 low.0.0.1, ne_eqb n 31 low.0.1, ne_eqb n 32 low.1, ne_eqb n 33 r.0.0.1, ne_eqb n 34 r.0.1, ne_eqb n 37 r.1)
