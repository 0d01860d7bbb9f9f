-- `objects::past_rules` meets its contract: a rule at a turn; what ends behind those left ends behind all.
use native.Mathlib.Omega.{arith}
use mathlib.Core.Path.{refl}
use Rattle.objects.proofs.Ends.{left-all, left-more, left-off, left-none}
use Rattle.objects.specs.View.{a_rule}
use Rattle.objects.proofs.past_rules.Goals as goal

pub loop-init : goal.loop-init
loop-init c = (omega arith, left-all a_rule (omega arith) refl)

pub returns-in_err-p-clause-ends : goal.returns-in_err-p-clause-ends
returns-in_err-p-clause-ends c = rw c.from_residual.ensures (left-off a_rule c.loop.invariant.1 (omega arith) c.in_err-p.ensures.ends)

pub loop-preserved : goal.loop-preserved
loop-preserved c = (c.in_ok-p.ensures.within, left-more a_rule c.loop.invariant.1 (omega arith) c.in_ok-p.ensures.ends)

pub returns-clause-ends : goal.returns-clause-ends
returns-clause-ends c = left-none a_rule c.loop.invariant.1 (omega arith) (omega arith)
