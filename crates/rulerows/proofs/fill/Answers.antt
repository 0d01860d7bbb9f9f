-- `rulerows::fill` meets its contract.
use mathlib.Core.Path.{◌∙◌}
use Rattle.rulerows.proofs.Whole.{filled}
use borrow.Author.Rules.{rules}
use Rattle.rulerows.proofs.fill.Goals as goal

-- src/lib.rt:137:1
pub returns : goal.returns
returns c = filled (search rules ∙ c.requires.2) c.put_written.ensures c.put_made.ensures
