-- `rulerows::pair_of` meets its contract.
use Rattle.rulerows.proofs.Made.{pair-of}
use Rattle.rulerows.proofs.pair_of.Goals as goal

-- src/lib.rt:72:1
pub returns : goal.returns
returns c = pair-of c.number-section.ensures.0 c.number-operand.ensures.0 c.entries_at-at.ensures c.cell.ensures c.cell-2.ensures c.cell-3.ensures c.cell-4.ensures
