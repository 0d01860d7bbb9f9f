-- `objects::is_text` meets its contract: past the text's end nothing is left of the part.
use mathlib.Core.Path.{sym, ap, ◌∙◌}
use native.Mathlib.Omega.{arith}
use Rattle.base.specs.Common.{same}
use Rattle.symbols.proofs.Parts.{part-fits, part-own}
use Rattle.objects.proofs.Sections.{part-outside}
use Rattle.objects.proofs.is_text.Goals as goal

pub returns-then-text-start : goal.returns-then-text-start
returns-then-text-start c = λ m x. let a = c.args in c.same_common.ensures m x ∙ ap (same m.text) (sym (part-outside a.text.now a.start a.len c.if-text-start.true))

pub same_common-requires-2 : goal.same_common-requires-2
same_common-requires-2 c = let a = c.args in let h = part-fits a.text.now a.start a.len c.part_len-size.result c.part_len-size.ensures in (omega arith, omega (arith, h))

pub returns : goal.returns
returns c = λ m x. let a = c.args in c.same_common-2.ensures m x ∙ ap (same m.text) (part-own a.text.now a.start a.len c.part_len-size.result c.part_len-size.ensures)
