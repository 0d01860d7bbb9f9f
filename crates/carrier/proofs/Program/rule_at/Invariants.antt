-- `carrier::Program::rule_at` meets its contract: the rules from k on begin behind the location.
use Rattle.carrier.proofs.Laws.{Upto}
use Rattle.carrier.specs.Held.{count_held}
use Rattle.carrier.proofs.Program.rule_at.Given as goal

abbrev pub invariant-loop-k : goal.invariant-loop-k
invariant-loop-k l = Upto l.self.sheet.now l.l (count_held l.self.sheet.now) l.k
