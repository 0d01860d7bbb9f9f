-- `declarer::against_unless` meets its contract.
use Rattle.declarer.proofs.against_unless.Goals as goal

pub returns-then-not-apart : goal.returns-then-not-apart
returns-then-not-apart c es ws' d h from o ws₁ is hap = c.against.ensures es ws' d h from o ws₁ is
