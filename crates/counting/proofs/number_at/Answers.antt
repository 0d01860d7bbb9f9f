-- `counting::number_at` meets its contract.
use native.Mathlib.Omega.{arith}
use borrow.Author.Rules.{rules}
use Rattle.figures.specs.Form.{number_at}
use Rattle.counting.proofs.number_at.Goals as goal

pub read_64-requires : goal.read_64-requires
read_64-requires c = omega arith

pub returns : goal.returns
unfolding number_at
returns c = search rules
