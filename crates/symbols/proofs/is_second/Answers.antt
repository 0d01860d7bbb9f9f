-- `symbols::is_second` meets its contract.
use mathlib.Core.Path.{refl, sym, ◌∙◌}
use borrow.Author.Tests.{ne_eqb, eq-eqb}
use Rattle.base.proofs.Laws.{same_slices}
use Rattle.names.specs.Known.{is_word}
use Rattle.symbols.specs.Rows.{decl_at, option_of}
use Rattle.symbols.proofs.is_second.Goals as goal

pub returns-then-n-ne0 : goal.returns-then-n-ne0
unfolding decl_at option_of is_word
returns-then-n-ne0 c = rw (← c.number-n.ensures.0, ne_eqb _ 0 c.if-n-ne0.true, ← c.number.ensures.0, ← c.part.ensures, ← same_slices) c.eq.ensures

pub returns-else-n-ne0 : goal.returns-else-n-ne0
unfolding decl_at option_of is_word
returns-else-n-ne0 c = rw (c.if-n-ne0.false, eq-eqb _ 0 (sym c.number-n.ensures.0 ∙ c.if-n-ne0.false)) refl
