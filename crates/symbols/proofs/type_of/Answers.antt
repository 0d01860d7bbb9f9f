-- `symbols::type_of` meets its contract.
use mathlib.Core.Path.{sym, ◌∙◌}
use Rattle.symbols.specs.Rows.{held, word_of}
use Rattle.symbols.proofs.Lookups.{type-there, type-later, type-not}
use Rattle.symbols.proofs.type_of.Goals as goal

pub returns-in-Some-clause-looks : goal.returns-in-Some-clause-looks
returns-in-Some-clause-looks c = λ kind. type-there (held c.args.text.now c.args.rows.now c.args.n) (word_of c.args.text.now kind c.args.start c.args.len) (held c.args.text.now c.args.rows.now c.args.before) c.in-Some.i c.in-Some.ensures.same

pub returns-then-has_row-clause-looks : goal.returns-then-has_row-clause-looks
returns-then-has_row-clause-looks c = λ kind. type-later (held c.args.text.now c.args.rows.now c.args.n) (word_of c.args.text.now kind c.args.start c.args.len) (held c.args.text.now c.args.rows.now c.args.before) c.in_default.ensures.same (sym c.if-has_row.true ∙ c.has_row.ensures)

pub returns-clause-looks : goal.returns-clause-looks
returns-clause-looks c = λ kind. type-not (held c.args.text.now c.args.rows.now c.args.n) (word_of c.args.text.now kind c.args.start c.args.len) (held c.args.text.now c.args.rows.now c.args.before) c.elsewhere.result c.in_default.ensures.same (sym c.if-has_row.false ∙ c.has_row.ensures) c.elsewhere.ensures
