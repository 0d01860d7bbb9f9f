use mathlib.Core.Path.{sym, ◌∙◌}
use Rattle.meter.proofs.Store.{called-first, called-own}
use Rattle.meter.proofs.called_number.Goals as goal

pub returns-then-called-eq-ROWS : goal.returns-then-called-eq-ROWS
returns-then-called-eq-ROWS c = c.number.ensures ∙ sym (called-first _ _ _ c.if-called-eq-ROWS.true)

pub returns : goal.returns
returns c = c.number-2.ensures ∙ sym (called-own _ _ _ c.if-called-eq-ROWS.false)
