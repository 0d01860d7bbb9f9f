-- `symbols::rule_of` meets its contract.
use mathlib.Core.Path.{sym, ◌∙◌}
use Rattle.symbols.specs.Rows.{held, word_of}
use Rattle.symbols.proofs.Lookups.{rule-clashes, rule-rest}
use Rattle.symbols.proofs.rule_of.Goals as goal

pub returns-then-has_row-clause-looks : goal.returns-then-has_row-clause-looks
returns-then-has_row-clause-looks c = λ kind. rule-clashes (held c.args.text.now c.args.rows.now c.args.n) (word_of c.args.text.now kind c.args.start c.args.len) (sym c.if-has_row.true ∙ c.has_row.ensures)

pub returns-clause-looks : goal.returns-clause-looks
returns-clause-looks c = λ kind. rule-rest (held c.args.text.now c.args.rows.now c.args.n) (word_of c.args.text.now kind c.args.start c.args.len) (sym c.if-has_row.false ∙ c.has_row.ensures) (c.row_of.ensures.looks kind)
