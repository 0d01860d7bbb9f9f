-- `resolver::select_operation` meets its contract.
use Rattle.resolver.proofs.Looking.{found-row, not-found}
use Rattle.symbols.proofs.Numbered.{fault-some}
use mathlib.Core.Path.{refl, sym, ◌∙◌}
use native.Mathlib.Omega.{arith}
use Rattle.resolver.proofs.Choosing.{operation-balks, operation-update, operation-picks}
use Rattle.resolver.proofs.Rests.{same_class}
use Rattle.resolver.proofs.select_operation.Goals as goal

pub returns-in-Err : goal.returns-in-Err
returns-in-Err c = operation-balks _ c.requires.0 (not-found (c.in-Err.ensures.looks _)) (fault-some c.in-Err.fault) c.refused.ensures

pub overflow_mul-row : goal.overflow_mul-row
overflow_mul-row c = omega (arith, c.in-Ok.ensures.low)

pub overflow_add-row : goal.overflow_add-row
overflow_add-row c = omega (arith, c.in-Ok.ensures.low)

pub returns-then-chooses-eq0 : goal.returns-then-chooses-eq0
returns-then-chooses-eq0 c = operation-update _ c.requires.0 (found-row (c.in-Ok.ensures.looks _)) refl c.in-Ok.ensures.low (sym c.number-chooses.ensures.0 ∙ c.if-chooses-eq0.true) c.refused-then-chooses-eq0.ensures

pub overflow_mul-row-2 : goal.overflow_mul-row-2
overflow_mul-row-2 c = omega (arith, c.in-Ok.ensures.low)

pub overflow_add-row-2 : goal.overflow_add-row-2
overflow_add-row-2 c = omega (arith, c.in-Ok.ensures.low)

pub select_with-requires : goal.select_with-requires
select_with-requires c = (c.requires.0, c.requires.1, c.in-Ok.ensures.low)

pub returns : goal.returns
returns c = operation-picks _ c.requires.0 (found-row (c.in-Ok.ensures.looks _)) _ refl c.in-Ok.ensures.low (λ e. c.if-chooses-eq0.false (c.number-chooses.ensures.0 ∙ e)) (same_class _ _ _ c.class_named-class.ensures c.number-start.ensures.0 c.number-chooses.ensures.0) c.select_with.ensures
