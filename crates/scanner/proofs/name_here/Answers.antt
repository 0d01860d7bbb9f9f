-- `scanner::name_here` meets its contract.
use Prim.Native.Nat.{◌+◌}
use native.Mathlib.Omega.{arith}
use Rattle.scanner.proofs.WordLaws.{spells, name-is}
use Rattle.scanner.proofs.name_here.Goals as goal

pub overflow_add-n : goal.overflow_add-n
overflow_add-n c = omega arith

pub kind_of-kind-requires : goal.kind_of-kind-requires
kind_of-kind-requires c = omega arith

pub overflow_add-n-2 : goal.overflow_add-n-2
overflow_add-n-2 c = omega arith

pub found-requires : goal.found-requires
found-requires c = omega arith

pub returns : goal.returns
returns c = spells _ c.kind_of-kind.result (c.run_of-n.result + 1) (name-is c.args.text.now c.args.at c.run_of-n.result c.kind_of-kind.result c.requires c.run_of-n.ensures.count c.kind_of-kind.ensures) c.found.ensures (omega arith) (omega arith)
