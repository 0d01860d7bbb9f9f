use mathlib.Core.Path.{refl}
use Rattle.emitter.specs.Heads.{anchor}
use Rattle.emitter.proofs.anchor.Goals as goal

pub returns-in-Location : goal.returns-in-Location
unfolding anchor
returns-in-Location c = rw c.in-Location.is refl

pub returns-in-Distance : goal.returns-in-Distance
unfolding anchor
returns-in-Distance c = rw c.in-Distance.is refl
