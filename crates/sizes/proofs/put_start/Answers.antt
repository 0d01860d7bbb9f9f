use mathlib.Core.Path.{sym}
use native.Mathlib.Omega.{arith}
use Rattle.emitter.proofs.Laws.{set_past}
use Rattle.sizes.proofs.put_start.Goals as goal

-- src/lib.rt:557:1
pub returns-else-r-starts : goal.returns-else-r-starts
returns-else-r-starts c = sym (set_past _ _ _ (omega arith))
