-- `carrying::carry_prepared` meets its contract: 51, 52 or the walk.
use Rattle.carrying.proofs.Told.{sections-differ, walk-goes, walk-stays}
use Rattle.carrying.proofs.carry_prepared.Goals as goal

pub returns-then-not-same_sections : goal.returns-then-not-same_sections
returns-then-not-same_sections c = sections-differ c.requires.0 c.requires.1 c.args.walk _ c.same_sections.ensures c.if-not-same_sections.true

pub carry_walk-requires : goal.carry_walk-requires
carry_walk-requires c = (c.requires.0.laid, c.requires.1.laid)

pub returns-in_default : goal.returns-in_default
returns-in_default c = walk-stays c.requires.0 c.requires.1 c.args.walk c.carry_walk.ensures _ c.same_sections.ensures c.if-not-same_sections.false c.in_default.is

pub returns : goal.returns
returns c = walk-goes c.requires.0 c.requires.1 c.args.walk c.carry_walk.ensures _ c.same_sections.ensures c.if-not-same_sections.false _ c.in-Some.is
