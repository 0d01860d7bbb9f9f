-- `verdict::union` meets its contract: bit by bit.
use Rattle.verdict.proofs.Sets.{member_union}
use Rattle.verdict.proofs.union.Goals as goal

-- `verdict::union` meets its contract: bit by bit.
pub returns : goal.returns
returns c = λ k. member_union c.args.s c.args.t k
