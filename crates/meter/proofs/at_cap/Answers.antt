use mathlib.Core.Path.{refl}
use Rattle.verdict.specs.Told.{bit}
use Rattle.meter.specs.Store.{at_cap}
use Rattle.meter.proofs.at_cap.Goals as goal

-- src/lib.rt:58:1
pub returns : goal.returns
unfolding at_cap bit
returns c = refl
