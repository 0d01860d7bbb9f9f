use mathlib.Core.Path.{sym}
use native.Mathlib.Omega.{arith}
use Rattle.emitter.proofs.Laws.{set_past}
use Rattle.emitter.proofs.put_slot.Goals as goal

-- src/lib.rt:104:1
pub returns-else-r-slots : goal.returns-else-r-slots
returns-else-r-slots c = sym (set_past _ _ _ (omega arith))
