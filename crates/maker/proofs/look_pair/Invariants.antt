-- `maker::look_pair` meets its contract.
use mathlib.Core.Path.{◌≡◌}
use Prim.Native.Nat.{◌-◌}
use Rattle.maker.specs.Pairs.{pairs_from, pairs_held, look_pair}
use Rattle.maker.proofs.look_pair.Given as goal

abbrev pub invariant-loop-j : goal.invariant-loop-j
invariant-loop-j l = look_pair l.section l.operand (pairs_held l.rows) ≡ look_pair l.section l.operand (pairs_from l.rows l.j (l.j-end - l.j))
