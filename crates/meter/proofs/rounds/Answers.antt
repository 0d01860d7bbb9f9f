-- `meter::rounds` meets its contract.
use mathlib.Core.Path.{refl}
use borrow.Author.Rules.{rules}
use Rattle.meter.proofs.Sweeps.{none-asked, then-swept}
use Rattle.meter.proofs.rounds.Goals as goal

pub loop-init : goal.loop-init
loop-init c = (c.requires.1, none-asked c.requires.0)

pub round-t-requires : goal.round-t-requires
round-t-requires c = (c.loop.invariant.1.kept, c.loop.invariant.0)

pub loop-preserved : goal.loop-preserved
loop-preserved c = (search rules, then-swept c.loop.invariant.1 c.round-t.ensures refl)
