-- `symbols::is_name` meets its contract.
use mathlib.Core.Path.{refl}
use Rattle.base.proofs.Laws.{same_slices}
use Rattle.symbols.specs.Rows.{decl_at}
use Rattle.symbols.proofs.is_name.Goals as goal

pub returns : goal.returns
unfolding decl_at
returns c = rw (c.eq.ensures, same_slices, c.part.ensures, c.number.ensures.0, c.number-2.ensures.0) refl
