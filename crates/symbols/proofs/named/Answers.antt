-- `symbols::named` meets its contract.
use mathlib.Core.Path.{refl}
use borrow.Author.Tests.{ne_eqb, eq-eqb}
use Rattle.symbols.specs.Rows.{decl_at}
use Rattle.symbols.specs.Search.{named}
use Rattle.symbols.proofs.named.Goals as goal

pub returns-then-number-class : goal.returns-then-number-class
unfolding decl_at named
returns-then-number-class c = rw (← c.number.ensures.0, eq-eqb _ _ c.if-number-class.true) c.is_name.ensures

pub returns-else-number-class : goal.returns-else-number-class
unfolding decl_at named
returns-else-number-class c = rw (← c.number.ensures.0, ne_eqb _ _ c.if-number-class.false) refl
