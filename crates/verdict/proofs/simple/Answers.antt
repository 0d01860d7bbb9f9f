-- `verdict::simple` meets its contract: no bit is set.
use Rattle.verdict.proofs.Sets.{member-none}
use mathlib.Core.Path.{refl}
use Rattle.verdict.proofs.simple.Goals as goal

-- `verdict::simple` meets its contract: no bit is set.
pub returns : goal.returns
returns c = record { end = refl; exit = refl; ret = refl; calls = λ k. member-none k; given = λ k. member-none k; loops = refl; next = refl }
