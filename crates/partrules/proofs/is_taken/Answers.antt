-- `partrules::is_taken` meets its contract.
use mathlib.Core.Path.{sym, ◌∙◌}
use Rattle.partrules.proofs.Seeing.{operation-taken, rule-taken, rule_free}
use Rattle.partrules.proofs.is_taken.Goals as goal

pub returns-then-has_row : goal.returns-then-has_row
returns-then-has_row c = operation-taken _ _ _ (sym c.if-has_row.true ∙ c.has_row.ensures)

pub returns-in-Some : goal.returns-in-Some
returns-in-Some c = rule-taken _ _ _ (sym c.if-has_row.false ∙ c.has_row.ensures) c.in-Some.ensures.same c.is_marked.ensures

pub returns-in-None : goal.returns-in-None
returns-in-None c = rule_free _ _ _ (sym c.if-has_row.false ∙ c.has_row.ensures) c.in-None.ensures.same
