-- `linkchecks::last_size` meets its contract.
use mathlib.Core.Path.{◌∙◌}
use Rattle.linkchecks.proofs.Rows.{viewed, last-is}
use Rattle.linkchecks.proofs.last_size.Goals as goal

pub returns : goal.returns
returns c = λ d n h. (c.count_all.ensures _ (viewed h)).2 ∙ last-is h.lengths h.objects h.as_many
