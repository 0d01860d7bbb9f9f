-- `linkchecks::count_rules` meets its contract.
use mathlib.Core.Path.{◌∙◌}
use Rattle.linkchecks.proofs.Rows.{viewed, row-length}
use Rattle.linkchecks.proofs.count_rules.Goals as goal

pub returns : goal.returns
returns c = λ d n h. (c.count_all.ensures _ (viewed h)).1 ∙ row-length 1 h.lengths h.objects h.as_many
