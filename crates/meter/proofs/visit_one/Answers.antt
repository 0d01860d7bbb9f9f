use Rattle.meter.proofs.visit_one.Goals as goal
use Rattle.meter.proofs.Visits.{one-return, one_end, one-any, one-update, one-choose}

pub returns-in-9 : goal.returns-in-9
returns-in-9 c = one-return c.in-9.is c.raise.ensures

pub returns-in-12 : goal.returns-in-12
returns-in-12 c = one_end c.in-12.is c.raise-in-12.ensures

pub returns-in-4 : goal.returns-in-4
returns-in-4 c = one-any c.in-4.is c.mark_of.ensures c.raise_two.ensures

pub returns-in_default : goal.returns-in_default
returns-in_default c = let r = c.in_default.in_default-own.rest in one-update r.0.0.1 r.0.1 r.1 c.if-i-lt-ASK.true c.raise-in_default.ensures

pub returns-in_default-2 : goal.returns-in_default-2
returns-in_default-2 c = let r = c.in_default.in_default-own.rest in one-choose r.0.0.1 r.0.1 r.1 c.if-i-lt-ASK.false c.raise_two-in_default-2.ensures
