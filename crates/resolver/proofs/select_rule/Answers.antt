-- `resolver::select_rule` meets its contract.
use Rattle.resolver.proofs.Looking.{found-row, not-found}
use Rattle.symbols.proofs.Numbered.{fault-some}
use mathlib.Core.Path.{refl, sym, ◌∙◌}
use native.Mathlib.Omega.{arith}
use Rattle.resolver.proofs.Appending.{appends-same}
use Rattle.resolver.proofs.Choosing.{rule-balks, rule-procedure, rule-picks}
use Rattle.resolver.proofs.Rests.{same_class}
use Rattle.resolver.proofs.select_rule.Goals as goal

pub returns-in-Err : goal.returns-in-Err
returns-in-Err c = rule-balks _ c.next_word-w.ensures c.requires.0 (not-found (c.in-Err.ensures.looks _)) (fault-some c.in-Err.fault) c.refused.ensures

pub overflow_mul-row : goal.overflow_mul-row
overflow_mul-row c = omega (arith, c.in-Ok.ensures.low)

pub overflow_add-row : goal.overflow_add-row
overflow_add-row c = omega (arith, c.in-Ok.ensures.low)

pub returns-then-gives-eq0 : goal.returns-then-gives-eq0
returns-then-gives-eq0 c = rule-procedure _ c.next_word-w.ensures c.requires.0 (found-row (c.in-Ok.ensures.looks _)) refl c.in-Ok.ensures.low (sym c.number-gives.ensures.0 ∙ c.if-gives-eq0.true) c.refused-then-gives-eq0.ensures

pub overflow_mul-row-2 : goal.overflow_mul-row-2
overflow_mul-row-2 c = omega (arith, c.in-Ok.ensures.low)

pub overflow_add-row-2 : goal.overflow_add-row-2
overflow_add-row-2 c = omega (arith, c.in-Ok.ensures.low)

pub overflow_mul-row-3 : goal.overflow_mul-row-3
overflow_mul-row-3 c = omega (arith, c.in-Ok.ensures.low)

pub overflow_add-row-3 : goal.overflow_add-row-3
overflow_add-row-3 c = omega (arith, c.in-Ok.ensures.low)

pub returns : goal.returns
returns c = rule-picks _ c.next_word-w.ensures c.requires.0 (found-row (c.in-Ok.ensures.looks _)) _ refl c.in-Ok.ensures.low (λ e. c.if-gives-eq0.false (c.number-gives.ensures.0 ∙ e)) (same_class _ _ _ c.class_named-class.ensures c.number-start.ensures.0 c.number-gives.ensures.0) (appends-same c.number-place.ensures.0 c.put_two-c.ensures) (record { fault = refl; at = refl; count = refl; class = refl; absent = refl })
