-- `resolver::resolve_update` meets its contract.
use Rattle.resolver.proofs.Looking.{found-row, not-found}
use Rattle.symbols.proofs.Numbered.{fault-some}
use Rattle.std.proofs.lemmas.Result.{err_from_is_err_and}
use mathlib.Core.Path.{refl, sym, ◌∙◌}
use native.Mathlib.Omega.{arith}
use Rattle.resolver.proofs.Appending.{small-value}
use Rattle.resolver.proofs.Rests.{update-stops, update-chooses, update-misfits, update-goes}
use Rattle.resolver.proofs.resolve_update.Goals as goal

pub returns-in-Err : goal.returns-in-Err
returns-in-Err c = update-stops _ c.requires.0 (not-found (c.in-Err.ensures.looks _)) (fault-some c.in-Err.fault) c.refused.ensures

pub overflow_mul-row : goal.overflow_mul-row
overflow_mul-row c = omega (arith, c.in-Ok.ensures.low)

pub overflow_add-row : goal.overflow_add-row
overflow_add-row c = omega (arith, c.in-Ok.ensures.low)

pub returns-then-chooses-ne0 : goal.returns-then-chooses-ne0
returns-then-chooses-ne0 c = update-chooses _ c.requires.0 (found-row (c.in-Ok.ensures.looks _)) refl c.in-Ok.ensures.low (λ e. c.if-chooses-ne0.true (c.number-chooses.ensures.0 ∙ e)) c.refused-then-chooses-ne0.ensures

pub parameter_of-requires : goal.parameter_of-requires
parameter_of-requires c = (c.requires.0, c.requires.1, c.in-Ok.ensures.low)

pub returns-in_err-p : goal.returns-in_err-p
returns-in_err-p c = let p = err_from_is_err_and c.from_residual.result c.from_residual.ensures.1 in rw (p.1, p.2) (update-misfits _ c.requires.0 (found-row (c.in-Ok.ensures.looks _)) refl c.in-Ok.ensures.low (sym c.number-chooses.ensures.0 ∙ c.if-chooses-ne0.false) c.in_err-p.ensures (fault-some _) (record { fault = refl; at = refl; len = refl }))

pub put_operation-c-requires : goal.put_operation-c-requires
put_operation-c-requires c = (omega (arith, c.in-Ok.ensures.low), small-value _ c.in_ok-p.ensures.small)

pub returns : goal.returns
returns c = update-goes _ c.requires.0 (found-row (c.in-Ok.ensures.looks _)) refl c.in-Ok.ensures.low (sym c.number-chooses.ensures.0 ∙ c.if-chooses-ne0.false) c.in_ok-p.ensures refl c.put_operation-c.ensures c.went.ensures
