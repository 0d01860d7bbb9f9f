-- `carrier::rule_named` meets its contract: no rule before j has the name.
use Rattle.carrier.proofs.Laws.{Sought}
use Rattle.carrier.specs.Held.{count_held}
use Rattle.carrier.proofs.rule_named.Given as goal

abbrev pub invariant-loop-j : goal.invariant-loop-j
invariant-loop-j l = Sought l.old.text.now l.old.sheet.now l.i l.new.text.now l.new.sheet.now (count_held l.new.sheet.now) l.j
