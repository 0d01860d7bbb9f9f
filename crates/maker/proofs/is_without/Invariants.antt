-- `maker::is_without` meets its contract.
use Rattle.maker.specs.Pairing.{NoSection}
use Rattle.maker.proofs.is_without.Given as goal

abbrev pub invariant-loop-i : goal.invariant-loop-i
invariant-loop-i l = NoSection l.rows l.i
