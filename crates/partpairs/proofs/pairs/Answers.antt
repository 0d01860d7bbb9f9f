-- `partpairs::pairs` meets its contract.
use native.Mathlib.Omega.{arith}
use mathlib.Core.Path.{◌∙◌}
use lib.ListN.{length-set}
use lib.Seq.{get_or-set_same}
use Rattle.partpairs.proofs.Walking.{pairs-whole}
use Rattle.symbols.proofs.Indexing.{index-set, kept-behind}
use Rattle.partpairs.proofs.pairs.Goals as goal

pub take_words-requires : goal.take_words-requires
take_words-requires c = (c.requires.0, c.requires.1, length-set c.args.rows.now 5632 0 ∙ c.requires.3, c.requires.4, kept-behind (index-set c.args.rows.now 5632 0 (omega arith)) c.requires.5, c.requires.6, omega (arith, get_or-set_same c.args.rows.now 5632 0 0 (omega (arith, c.requires.3))))

pub shape_of-rows : goal.shape_of-rows
shape_of-rows c = c.take_words.ensures.goes.index.size ∙ length-set c.args.rows.now 5632 0

pub returns : goal.returns
returns c = pairs-whole c.requires.5.few (omega (arith, c.requires.3)) c.requires.2 c.take_words.ensures c.number.ensures.0
