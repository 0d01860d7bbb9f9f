-- `levels::site_of` meets its contract.
use Rattle.levels.proofs.Making.{site-of}
use Rattle.levels.proofs.site_of.Goals as goal

-- src/lib.rt:258:1
pub returns : goal.returns
returns c = site-of c.number-section.ensures.0 c.number-rule.ensures.0 c.number-own.ensures.0 c.number-own.ensures.1 c.entries_at-at.ensures c.number-operand.ensures.0 c.number-operand.ensures.1
