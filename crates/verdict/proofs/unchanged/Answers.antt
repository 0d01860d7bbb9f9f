-- `verdict::unchanged` meets its contract: by computation.
use mathlib.Core.Path.{refl}
use Rattle.verdict.specs.Told.{alike}
use Rattle.verdict.proofs.unchanged.Goals as goal

-- `verdict::unchanged` meets its contract: by computation.
pub returns : goal.returns
unfolding alike
returns c = refl
