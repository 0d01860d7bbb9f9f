-- `objects::rule_ok` meets its contract.
use mathlib.Core.Path.{sym, ◌∙◌}
use borrow.Author.Tests.{ne_eqb}
use Rattle.objects.proofs.Told.{first_cell, leads, rule-named, rule-not}
use Rattle.objects.proofs.rule_ok.Goals as goal

pub returns-then-number-eq0 : goal.returns-then-number-eq0
returns-then-number-eq0 c = record { tells = λ hs ps kn m n cells names x. c.is_listed.ensures hs n kn (leads x).here ∙ sym (rule-named hs ps m n (sym (first_cell x) ∙ sym c.number.ensures.0 ∙ c.if-number-eq0.true)) }

pub returns-else-number-eq0 : goal.returns-else-number-eq0
returns-else-number-eq0 c = record { tells = λ hs ps kn m n cells names x. ne_eqb _ 0 c.if-number-eq0.false ∙ sym (rule-not hs ps m n (λ z. c.if-number-eq0.false (c.number.ensures.0 ∙ first_cell x ∙ z))) }
