-- `declarer::name_taken` meets its contract.
use mathlib.Core.Path.{refl}
use Rattle.symbols.specs.Rows.{decl_at}
use Rattle.declarer.proofs.name_taken.Goals as goal

pub returns : goal.returns
unfolding decl_at
returns c = rw (c.has_row.ensures, c.number.ensures.0, c.number-2.ensures.0) refl
