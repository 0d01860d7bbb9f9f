-- `verdict::past` meets its contract: by computation.
use mathlib.Core.Path.{refl}
use Rattle.verdict.specs.Told.{past_cell}
use Rattle.verdict.proofs.past.Goals as goal

-- `verdict::past` meets its contract: by computation.
pub returns : goal.returns
unfolding past_cell
returns c = refl
