-- `rulerows::put_made` meets its contract.
use borrow.Author.Rules.{rules}
use mathlib.Core.Path.{sym, ◌∙◌}
use native.Mathlib.Omega.{arith}
use Rattle.rulerows.proofs.Made.{made-end, made-next}
use Rattle.rulerows.proofs.put_made.Goals as goal

-- src/lib.rt:129:5
pub loop-j-init : goal.loop-j-init
loop-j-init c = (c.requires.0.more, c.requires.2, λ sheet' m. m)

-- src/lib.rt:130:13
pub pair_of-pair-requires : goal.pair_of-pair-requires
pair_of-pair-requires c = omega (arith, c.loop-j-test.true, c.number-j-end.ensures.1)

-- src/lib.rt:131:9
pub put_levels-k-requires : goal.put_levels-k-requires
put_levels-k-requires c = (c.pair_of-pair.ensures.at.inside, c.requires.3, c.loop-j.invariant.0, c.requires.0.few, c.requires.1, c.loop-j.invariant.1)

-- src/lib.rt:129:5
pub loop-j-preserved : goal.loop-j-preserved
loop-j-preserved c = (c.put_levels-k.ensures.low, search rules ∙ c.loop-j.invariant.1, λ sheet' m. c.loop-j.invariant.2 sheet' (made-next (omega (arith, c.loop-j-test.true, c.number-j-end.ensures.0)) c.pair_of-pair.ensures c.put_levels-k.ensures m))

-- src/lib.rt:122:1
pub shape_of-sheet : goal.shape_of-sheet
shape_of-sheet c = c.loop-j.invariant.1 ∙ sym c.requires.2

-- src/lib.rt:122:1
pub returns : goal.returns
returns c = c.loop-j.invariant.2 _ (made-end (omega (arith, c.loop-j-test.false, c.number-j-end.ensures.0)))
