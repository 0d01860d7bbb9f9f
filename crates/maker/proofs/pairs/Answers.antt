-- `maker::pairs` meets its contract.
use native.Mathlib.Omega.{arith}
use mathlib.Core.Logic.{inl, inr}
use mathlib.Core.Path.{◌∙◌}
use lib.ListN.{length-set}
use lib.Seq.{get_or-set_same}
use Rattle.maker.proofs.Walking.{pairs-none, pairs-unused, pairs-whole}
use Rattle.symbols.proofs.Indexing.{index-set, kept-behind}
use Rattle.maker.proofs.pairs.Goals.{then-n-first-via-then-n-first, then-n-first-via-else-n-first+then-n-first-gt-RULES, then-n-first-via-else-n-first+else-n-first-gt-RULES+then-is_without}
use Rattle.maker.proofs.pairs.Goals as goal

pub returns-then-n-first : goal.returns-then-n-first
returns-then-n-first c = elim c.then-n-first.branch [
  | then-n-first-via-then-n-first w ↦ pairs-none (inl w.if-n-first.true)
  | then-n-first-via-else-n-first+then-n-first-gt-RULES w ↦ pairs-none (inr w.if-n-first-gt-RULES.true)
  | then-n-first-via-else-n-first+else-n-first-gt-RULES+then-is_without w ↦ pairs-unused c.requires.3.few c.requires.2 (w.is_without.ensures w.if-is_without.true)
]

pub take_words-requires : goal.take_words-requires
take_words-requires c = (c.requires.0, c.requires.1, length-set c.args.rows.now 5632 0 ∙ c.requires.2, kept-behind (index-set c.args.rows.now 5632 0 (omega arith)) c.requires.3, c.requires.4, omega (arith, c.if-n-first-gt-RULES.false), omega (arith, get_or-set_same c.args.rows.now 5632 0 0 (omega (arith, c.requires.2))))

pub returns : goal.returns
returns c = pairs-whole c.requires.3.few c.requires.2 c.take_words.ensures
