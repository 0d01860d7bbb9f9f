-- `builder::is_taken` meets its contract.
use mathlib.Core.Path.{sym, ◌∙◌}
use lib.ListN.{take, drop}
use Rattle.builder.proofs.Heading.{operation-taken, rule-taken, rule_free}
use Rattle.symbols.specs.Rows.{held}
use Rattle.builder.proofs.is_taken.Goals as goal

pub returns-then-has_row : goal.returns-then-has_row
returns-then-has_row c = operation-taken (held c.args.text.now c.args.rows.now c.args.n) c.args.before (take c.args.len (drop c.args.start c.args.text.now)) (sym c.if-has_row.true ∙ c.has_row.ensures)

pub returns-in-Some : goal.returns-in-Some
returns-in-Some c = rule-taken (held c.args.text.now c.args.rows.now c.args.n) c.args.before (take c.args.len (drop c.args.start c.args.text.now)) (sym c.if-has_row.false ∙ c.has_row.ensures) c.in-Some.ensures.same

pub returns-in-None : goal.returns-in-None
returns-in-None c = rule_free (held c.args.text.now c.args.rows.now c.args.n) c.args.before (take c.args.len (drop c.args.start c.args.text.now)) c.requires.1 (sym c.if-has_row.false ∙ c.has_row.ensures) c.in-None.ensures.same
