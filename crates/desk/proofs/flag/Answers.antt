-- `desk::flag` meets its contract.
use mathlib.Core.Path.{sym, ap}
use Rattle.desk.specs.Parted.{flag_of}
use Rattle.desk.proofs.flag.Goals as goal

-- `desk::flag` meets its contract.
pub returns-then-b : goal.returns-then-b
unfolding flag_of
returns-then-b c = ap flag_of (sym c.if-b.true)

pub returns-else-b : goal.returns-else-b
unfolding flag_of
returns-else-b c = ap flag_of (sym c.if-b.false)
