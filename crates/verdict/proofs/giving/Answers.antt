-- `verdict::giving` meets its contract: no call.
use Rattle.verdict.proofs.Sets.{member-none}
use mathlib.Core.Path.{refl}
use Rattle.verdict.proofs.giving.Goals as goal

-- `verdict::giving` meets its contract: no call.
pub returns : goal.returns
returns c = record { end = refl; exit = refl; ret = refl; calls = λ k. member-none k; given = refl; loops = refl; next = refl }
