-- `builder::sort_of` meets its contract.
use mathlib.Core.Path.{sym, ap}
use Rattle.builder.specs.Rules.{sort_of}
use Rattle.builder.proofs.sort_of.Goals as goal

-- `builder::sort_of` meets its contract.
pub returns-then-valued : goal.returns-then-valued
unfolding sort_of
returns-then-valued c = ap sort_of (sym c.if-valued.true)

pub returns-else-valued : goal.returns-else-valued
unfolding sort_of
returns-else-valued c = ap sort_of (sym c.if-valued.false)
