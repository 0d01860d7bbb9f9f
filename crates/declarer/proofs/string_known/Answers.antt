-- `declarer::string_known` meets its contract.
use mathlib.Core.Path.{refl, sym, ◌∙◌}
use borrow.Author.Tests.{ne_eqb, eq-eqb}
use Rattle.names.specs.Declare.{spelled}
use Rattle.symbols.specs.Rows.{decl_at, option_of}
use Rattle.declarer.proofs.string_known.Goals as goal

pub returns-then-len-ne0 : goal.returns-then-len-ne0
unfolding decl_at option_of spelled
returns-then-len-ne0 c = rw (← c.number-len.ensures.0, ne_eqb _ 0 c.if-len-ne0.true, ← c.number.ensures.0) c.is_known.ensures

pub returns-else-len-ne0 : goal.returns-else-len-ne0
unfolding decl_at option_of spelled
returns-else-len-ne0 c = rw (c.if-len-ne0.false, eq-eqb _ 0 (sym c.number-len.ensures.0 ∙ c.if-len-ne0.false)) refl
