use Rattle.sources.proofs.Answers.{all-wrong, all-well}
use Rattle.sources.proofs.prepare.Goals as goal

pub returns-then-p-ne0 : goal.returns-then-p-ne0
returns-then-p-ne0 c = all-wrong c.read_rules-p.ensures c.if-p-ne0.true

pub returns : goal.returns
returns c = all-well c.read_rules-p.ensures c.write_table.ensures
