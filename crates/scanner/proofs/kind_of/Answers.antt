-- `scanner::kind_of` meets its contract.
use mathlib.Core.Path.{sym, ◌∙◌}
use lib.ListN.{take, drop}
use Rattle.scanner.proofs.WordLaws.{kind-a, kind-b, kind-c}
use Rattle.scanner.proofs.kind_of.Goals as goal

pub returns-then-a-ne-NAME : goal.returns-then-a-ne-NAME
returns-then-a-ne-NAME c = c.kind_of_brackets-a.ensures ∙ sym (kind-a (take c.args.len (drop c.args.start c.args.text.now)) (λ e. c.if-a-ne-NAME.true (c.kind_of_brackets-a.ensures ∙ e)))

pub returns-then-b-ne-NAME : goal.returns-then-b-ne-NAME
returns-then-b-ne-NAME c = c.kind_of_heads-b.ensures ∙ sym (kind-b (take c.args.len (drop c.args.start c.args.text.now)) (sym c.kind_of_brackets-a.ensures ∙ c.if-a-ne-NAME.false) (λ e. c.if-b-ne-NAME.true (c.kind_of_heads-b.ensures ∙ e)))

pub returns : goal.returns
returns c = c.kind_of_others.ensures ∙ sym (kind-c (take c.args.len (drop c.args.start c.args.text.now)) (sym c.kind_of_brackets-a.ensures ∙ c.if-a-ne-NAME.false) (sym c.kind_of_heads-b.ensures ∙ c.if-b-ne-NAME.false))
