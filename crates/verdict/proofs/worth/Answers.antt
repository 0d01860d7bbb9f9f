-- `verdict::worth` meets its contract.
use Rattle.verdict.specs.Told.{all_worth, none_worth}
use Rattle.verdict.proofs.worth.Goals as goal

-- `verdict::worth` meets its contract.
pub returns-then-a-w : goal.returns-then-a-w
returns-then-a-w c = all_worth

pub is_covered-requires : goal.is_covered-requires
is_covered-requires c = tt

pub returns-then-is_covered : goal.returns-then-is_covered
returns-then-is_covered c = none_worth (c.is_covered.ensures c.if-is_covered.true)

pub returns : goal.returns
returns c = all_worth
