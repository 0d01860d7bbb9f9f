-- `scanner::number_here` meets its contract.
use Prim.Native.Nat.{◌+◌}
use native.Mathlib.Omega.{arith}
use lib.ListN.{drop}
use Rattle.scanner.proofs.WordLaws.{spells, number_is}
use Rattle.scanner.proofs.number_here.Goals as goal

pub overflow_add-n : goal.overflow_add-n
overflow_add-n c = omega arith

pub found-requires : goal.found-requires
found-requires c = omega arith

pub returns : goal.returns
returns c = spells _ 258 (c.run_of-n.result + 1) (number_is (drop (c.args.at + 1) c.args.text.now) c.run_of-n.result c.run_of-n.ensures.count) c.found.ensures (omega arith) (omega arith)
