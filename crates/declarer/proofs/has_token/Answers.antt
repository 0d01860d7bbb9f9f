-- `declarer::has_token` meets its contract.
use mathlib.Core.Path.{sym, ◌∙◌}
use Rattle.declarer.proofs.OperatorLaws.{token-none, token-same}
use Rattle.declarer.proofs.has_token.Goals as goal

pub returns-then-is_some : goal.returns-then-is_some
returns-then-is_some c x e = c.eq.ensures ∙ token-same x _ e c.find_value.ensures.same (sym c.is_some.ensures ∙ c.if-is_some.true)

pub returns-else-is_some : goal.returns-else-is_some
returns-else-is_some c x e = c.if-is_some.false ∙ token-none x _ e (sym c.is_some.ensures ∙ c.if-is_some.false)
