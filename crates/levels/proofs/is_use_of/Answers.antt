-- `levels::is_use_of` meets its contract.
use mathlib.Core.Path.{refl}
use Rattle.levels.proofs.Naming.{word-tested}
use Rattle.levels.proofs.is_use_of.Goals as goal

pub returns-then-w-eq-CARET : goal.returns-then-w-eq-CARET
returns-then-w-eq-CARET c = word-tested _ c.if-w-eq-CARET.true c.read_use.ensures c.eq.ensures (λ v. refl)
