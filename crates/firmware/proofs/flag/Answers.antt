-- `firmware::flag` meets its contract.
use mathlib.Core.Path.{sym, ap}
use Rattle.firmware.specs.Processing.{flag_of}
use Rattle.firmware.proofs.flag.Goals as goal

-- `firmware::flag` meets its contract.
pub returns-then-b : goal.returns-then-b
unfolding flag_of
returns-then-b c = ap flag_of (sym c.if-b.true)

pub returns-else-b : goal.returns-else-b
unfolding flag_of
returns-else-b c = ap flag_of (sym c.if-b.false)
