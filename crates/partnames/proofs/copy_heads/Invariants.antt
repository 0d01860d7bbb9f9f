-- `partnames::copy_heads` meets its contract.
use Rattle.partnames.specs.Heads.{CopiesHeads}
use Rattle.partnames.proofs.copy_heads.Given as goal

abbrev pub invariant-loop-i : goal.invariant-loop-i
invariant-loop-i l = CopiesHeads l.text l.rows l.first l.i l.initial.heads l.heads
