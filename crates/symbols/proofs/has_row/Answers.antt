-- `symbols::has_row` meets its contract.
use mathlib.Core.Path.{◌∙◌}
use Rattle.symbols.proofs.Searches.{answer-given}
use Rattle.symbols.proofs.has_row.Goals as goal

pub returns : goal.returns
returns c = c.is_some.ensures ∙ answer-given _ c.find_row.ensures.same
