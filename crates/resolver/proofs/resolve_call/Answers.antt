-- `resolver::resolve_call` meets its contract.
use Rattle.resolver.proofs.Looking.{found-row, not-found}
use Rattle.symbols.proofs.Numbered.{fault-some}
use mathlib.Core.Path.{refl, sym, ◌∙◌}
use native.Mathlib.Omega.{arith}
use Rattle.resolver.proofs.Rests.{call-stops, call-chooses, call-goes}
use Rattle.resolver.proofs.Appending.{appends-same}
use Rattle.resolver.proofs.resolve_call.Goals as goal

pub returns-in-Err : goal.returns-in-Err
returns-in-Err c = call-stops _ c.next_word-w.ensures c.requires.0 (not-found (c.in-Err.ensures.looks _)) (fault-some c.in-Err.fault) c.refused.ensures

pub overflow_mul-row : goal.overflow_mul-row
overflow_mul-row c = omega (arith, c.in-Ok.ensures.low)

pub overflow_add-row : goal.overflow_add-row
overflow_add-row c = omega (arith, c.in-Ok.ensures.low)

pub returns-then-gives-ne0 : goal.returns-then-gives-ne0
returns-then-gives-ne0 c = call-chooses _ c.next_word-w.ensures c.requires.0 (found-row (c.in-Ok.ensures.looks _)) refl c.in-Ok.ensures.low (λ e. c.if-gives-ne0.true (c.number-gives.ensures.0 ∙ e)) c.refused-then-gives-ne0.ensures

pub overflow_mul-row-2 : goal.overflow_mul-row-2
overflow_mul-row-2 c = omega (arith, c.in-Ok.ensures.low)

pub overflow_add-row-2 : goal.overflow_add-row-2
overflow_add-row-2 c = omega (arith, c.in-Ok.ensures.low)

pub returns : goal.returns
returns c = call-goes _ c.next_word-w.ensures c.requires.0 (found-row (c.in-Ok.ensures.looks _)) refl c.in-Ok.ensures.low (sym c.number-gives.ensures.0 ∙ c.if-gives-ne0.false) (appends-same c.number-place.ensures.0 c.put_two-c.ensures) c.went.ensures
