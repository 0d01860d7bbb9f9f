use mathlib.Core.Path.{ap, ◌∙◌}
use Rattle.emitter.specs.Words.{cut}
use Rattle.emitter.specs.Heads.{start_of}
use Rattle.emitter.proofs.start_at.Goals as goal

-- src/lib.rt:113:1
pub returns : goal.returns
unfolding start_of
returns c = c.low.ensures ∙ ap cut c.slot.ensures
