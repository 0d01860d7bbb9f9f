-- `symbols::knows` meets its contract.
use mathlib.Core.Path.{refl}
use Rattle.symbols.specs.Search.{knows}
use Rattle.symbols.proofs.Searches.{feeds-at}
use Rattle.symbols.proofs.knows.Goals as goal

pub returns-then-is_name : goal.returns-then-is_name
unfolding knows
returns-then-is_name c = rw (feeds-at, ← c.number.ensures.0, ← c.serves.ensures, c.if-serves.true, ← c.is_name.ensures, c.if-is_name.true) refl

pub returns-else-is_name : goal.returns-else-is_name
unfolding knows
returns-else-is_name c = rw (feeds-at, ← c.number.ensures.0, ← c.serves.ensures, c.if-serves.true, ← c.is_name.ensures, c.if-is_name.false) c.is_second.ensures

pub returns-else-serves : goal.returns-else-serves
unfolding knows
returns-else-serves c = rw (feeds-at, ← c.number.ensures.0, ← c.serves.ensures, c.if-serves.false) refl
