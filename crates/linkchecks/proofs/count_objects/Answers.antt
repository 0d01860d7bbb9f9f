-- `linkchecks::count_objects` meets its contract.
use mathlib.Core.Path.{◌∙◌}
use Rattle.linkchecks.proofs.Rows.{viewed, as-many-views}
use Rattle.linkchecks.proofs.count_objects.Goals as goal

pub returns : goal.returns
returns c = λ d n h. (c.count_all.ensures _ (viewed h)).0 ∙ as-many-views h.lengths h.objects h.as_many
