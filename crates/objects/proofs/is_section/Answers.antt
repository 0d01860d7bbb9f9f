-- `objects::is_section` meets its contract: the class, then the name.
use mathlib.Core.Path.{◌∙◌}
use borrow.Author.Tests.{ne_eqb}
use Rattle.objects.proofs.Sections.{other-class, by-its-name}
use Rattle.objects.proofs.is_section.Goals as goal

pub returns-then-number-eq-OPERATORS : goal.returns-then-number-eq-OPERATORS
returns-then-number-eq-OPERATORS c = λ m x. let a = c.args in by-its-name a.text.now a.rows.now m.text a.i _ _ _ _ c.number.ensures.0 c.if-number-eq-OPERATORS.true c.number-then-number-eq-OPERATORS.ensures.0 c.number-then-number-eq-OPERATORS-2.ensures.0 (c.is_text.ensures m x)

pub returns-else-number-eq-OPERATORS : goal.returns-else-number-eq-OPERATORS
returns-else-number-eq-OPERATORS c = λ m x. let a = c.args in ne_eqb _ _ c.if-number-eq-OPERATORS.false ∙ other-class a.text.now a.rows.now m.text a.i _ c.number.ensures.0 c.if-number-eq-OPERATORS.false
