-- `admission::grants` meets its contract.
use mathlib.Core.Path.{refl}
use Rattle.admission.proofs.Laws.{grants-there, grants-past}
use Rattle.admission.proofs.grants.Goals as goal

pub returns-in-Some : goal.returns-in-Some
returns-in-Some c = grants-there c.args.set.now c.args.op c.in-Some.byte.now _ c.requires (c.in-Some.ensures.lookup.3.1 0) refl

pub returns-in-None : goal.returns-in-None
returns-in-None c = grants-past c.args.set.now c.args.op c.requires c.in-None.ensures.lookup.3
