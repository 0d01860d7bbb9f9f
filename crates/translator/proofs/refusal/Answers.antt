use mathlib.Core.Path.{refl}
use Rattle.figure.specs.Told.{untold}
use Rattle.translator.specs.Answered.{answered}
use Rattle.translator.proofs.refusal.Goals as goal

-- src/lib.rt:40:1
pub returns : goal.returns
unfolding answered untold
returns c = refl
