-- `partnames::is_rule` meets its contract.
use Rattle.symbols.specs.Search.{part}
use Rattle.partnames.proofs.Mentioned.{Searched}
use Rattle.partnames.proofs.is_rule.Given as goal

abbrev pub invariant-loop-i : goal.invariant-loop-i
invariant-loop-i l = Searched l.text l.rows l.first l.n (part l.text l.start l.len) l.i
