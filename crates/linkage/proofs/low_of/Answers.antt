-- `linkage::low_of` meets its contract.
use Rattle.linkage.proofs.Closing.{low-none, low-there, low-found}
use Rattle.linkage.proofs.low_of.Goals as goal

pub returns-then-k-uses : goal.returns-then-k-uses
returns-then-k-uses c = λ low h. low-none h c.args.k c.if-k-uses.true

pub returns : goal.returns
returns c = λ low h. low-found h c.args.k c.if-k-uses.false c.in-Some.ensures.ends c.lowest_at.ensures

pub returns-in_default : goal.returns-in_default
returns-in_default c = λ low h. absurd (low-there h c.args.k c.if-k-uses.false c.in_default.ensures.ends)
