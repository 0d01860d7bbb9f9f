-- `resolver::resolve_ranked` meets its contract.
use Rattle.resolver.proofs.Looking.{found-row, not-found}
use Rattle.symbols.proofs.Numbered.{fault-some}
use mathlib.Core.Path.{refl, sym, ◌∙◌}
use native.Mathlib.Omega.{arith}
use Rattle.resolver.proofs.Ranking.{ranked-stops, operand-stops, operand-chooses, ranked-goes}
use Rattle.resolver.proofs.Appending.{appends-same}
use Rattle.resolver.proofs.resolve_ranked.Goals as goal

pub returns-in-Err : goal.returns-in-Err
returns-in-Err c = ranked-stops _ _ c.requires.0 c.next_word-s.ensures (not-found (c.in-Err.ensures.looks _)) (fault-some c.in-Err.fault) c.refused.ensures

pub returns-in-Err-rule_of : goal.returns-in-Err-rule_of
returns-in-Err-rule_of c = operand-stops _ _ c.requires.0 c.next_word-s.ensures (found-row (c.in-Ok.ensures.looks _)) _ _ c.next_word-a.ensures c.next_word-o.ensures (not-found (c.in-Err-rule_of.ensures.looks _)) refl (fault-some c.in-Err-rule_of.fault) c.refused-in-Err-rule_of.ensures

pub overflow_mul-row : goal.overflow_mul-row
overflow_mul-row c = omega (arith, c.in-Ok-rule_of.ensures.low, c.requires.1.few)

pub overflow_add-row : goal.overflow_add-row
overflow_add-row c = omega (arith, c.in-Ok-rule_of.ensures.low, c.requires.1.few)

pub returns-then-valued-ne0 : goal.returns-then-valued-ne0
returns-then-valued-ne0 c = operand-chooses _ _ c.requires.0 c.next_word-s.ensures (found-row (c.in-Ok.ensures.looks _)) _ _ c.next_word-a.ensures c.next_word-o.ensures (found-row (c.in-Ok-rule_of.ensures.looks _)) refl refl c.in-Ok-rule_of.ensures.low (λ e. c.if-valued-ne0.true (c.number-valued.ensures.0 ∙ e)) c.refused-then-valued-ne0.ensures

pub returns : goal.returns
returns c = ranked-goes _ _ c.requires.0 c.next_word-s.ensures (found-row (c.in-Ok.ensures.looks _)) _ _ c.next_word-a.ensures c.next_word-o.ensures (found-row (c.in-Ok-rule_of.ensures.looks _)) refl refl c.in-Ok-rule_of.ensures.low (sym c.number-valued.ensures.0 ∙ c.if-valued-ne0.false) (appends-same c.lowest-lowest.ensures.same c.put_two-c.ensures) c.went.ensures
