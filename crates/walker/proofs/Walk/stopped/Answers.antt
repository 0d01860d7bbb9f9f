-- `Walk::stopped` meets its contract.
use mathlib.Core.Path.{refl}
use Rattle.walker.proofs.Walk.stopped.Goals as goal

pub returns : goal.returns
returns c = rw (c.ended.ensures, c.in_phase.ensures) refl
