-- `symbols::declares` meets its contract.
use mathlib.Core.Path.{refl}
use borrow.Author.Tests.{ne_eqb, eq-eqb}
use Rattle.symbols.specs.Search.{declares}
use Rattle.symbols.proofs.Searches.{class-at}
use Rattle.symbols.proofs.declares.Goals as goal

pub returns-then-is_name : goal.returns-then-is_name
unfolding declares
returns-then-is_name c = rw (← c.is_name.ensures, c.if-is_name.true) refl

pub returns-then-number-ne-OPERATION : goal.returns-then-number-ne-OPERATION
unfolding declares
returns-then-number-ne-OPERATION c = rw (← c.is_name.ensures, c.if-is_name.false, class-at, ← c.number.ensures.0, ne_eqb _ 6 c.if-number-ne-OPERATION.true) c.is_second.ensures

pub returns-else-number-ne-OPERATION : goal.returns-else-number-ne-OPERATION
unfolding declares
returns-else-number-ne-OPERATION c = rw (← c.is_name.ensures, c.if-is_name.false, class-at, ← c.number.ensures.0, eq-eqb _ 6 c.if-number-ne-OPERATION.false) refl
