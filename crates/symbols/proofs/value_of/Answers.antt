-- `symbols::value_of` meets its contract.
use Rattle.symbols.specs.Rows.{held, word_of}
use Rattle.symbols.proofs.Lookups.{value_there, value_not}
use Rattle.symbols.proofs.value_of.Goals as goal

pub returns-in-Some-clause-looks : goal.returns-in-Some-clause-looks
returns-in-Some-clause-looks c = λ kind. value_there (held c.args.text.now c.args.rows.now c.args.n) (word_of c.args.text.now kind c.args.start c.args.len) c.args.class c.in-Some.v c.in-Some.ensures.same

pub returns-in-None-clause-looks : goal.returns-in-None-clause-looks
returns-in-None-clause-looks c = λ kind. value_not (held c.args.text.now c.args.rows.now c.args.n) (word_of c.args.text.now kind c.args.start c.args.len) c.args.class c.elsewhere.result c.in-None.ensures.same c.elsewhere.ensures
