-- `partwriter::room` meets its contract.
use native.Mathlib.Omega.{arith}
use Rattle.machine.specs.Bytes.{count}
use borrow.Author.Rules.{rules}
use Rattle.partwriter.proofs.room.Goals as goal

pub returns : goal.returns
unfolding count
returns c = (search rules, omega (arith, c.count_words.ensures))
