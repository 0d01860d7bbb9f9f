-- `symbols::counts` meets its contract.
use mathlib.Core.Path.{◌∙◌}
use borrow.Author.Tests.{ne_eqb}
use Rattle.symbols.proofs.Searches.{counts-other, counts-own}
use Rattle.symbols.proofs.counts.Goals as goal

pub returns-then-v-number : goal.returns-then-v-number
returns-then-v-number c = counts-own c.args.class c.args.v _ _ _ _ c.number.ensures.0 c.if-v-number.true c.number-then-v-number.ensures.0 _ c.serves.ensures

pub returns-else-v-number : goal.returns-else-v-number
returns-else-v-number c = ne_eqb _ _ c.if-v-number.false ∙ counts-other c.args.class c.args.v _ _ _ c.number.ensures.0 c.if-v-number.false
