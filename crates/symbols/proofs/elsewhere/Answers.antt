-- `symbols::elsewhere` meets its contract.
use mathlib.Core.Path.{refl}
use Rattle.declarations.specs.Decls.{elsewhere_in}
use Rattle.symbols.proofs.elsewhere.Goals as goal

pub returns-then-is_declared : goal.returns-then-is_declared
unfolding elsewhere_in
returns-then-is_declared c = rw (← c.is_declared.ensures, c.if-is_declared.true) refl

pub returns-else-is_declared : goal.returns-else-is_declared
unfolding elsewhere_in
returns-else-is_declared c = rw (← c.is_declared.ensures, c.if-is_declared.false) refl
