-- `verdict::row` meets its contract: two words read.
use mathlib.Core.Path.{refl}
use Rattle.verdict.specs.Told.{row_of}
use Rattle.verdict.proofs.row.Goals as goal

pub returns : goal.returns
unfolding row_of
returns c = refl
