-- `separate::write_rules` meets its contract.
use native.Mathlib.Omega.{arith}
use Rattle.separate.proofs.write_rules.Goals as goal

pub open_rules-requires : goal.open_rules-requires
open_rules-requires c = (c.requires.0, c.requires.1, c.requires.2, omega (arith, c.requires.2.few), omega arith, omega arith, c.requires.3)
