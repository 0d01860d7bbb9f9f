-- `linkchecks::next_rule` meets its contract.
use native.Mathlib.Omega.{arith}
use Rattle.linkchecks.proofs.Walking.{rule-ahead, rule-ends, steps, next-over, next_here, next-object}
use Rattle.linkchecks.proofs.next_rule.Goals as goal

pub returns-in_default : goal.returns-in_default
returns-in_default c = (omega arith, omega arith, omega arith, λ vs x row s. absurd (rule-ends (steps s) c.in_default.ensures.ends))

pub returns-then-at-end : goal.returns-then-at-end
returns-then-at-end c = let l = rule-ahead c.in-Some.ensures.ends (omega arith) in (omega (arith, l), omega arith, omega arith, λ vs x row s. let a = c.args in next-over (steps s) c.in-Some.ensures.ends _ c.total-end.ensures.0 (omega arith))

pub returns-then-cursor-gt1 : goal.returns-then-cursor-gt1
returns-then-cursor-gt1 c = let l = rule-ahead c.in-Some.ensures.ends (omega arith) in (omega (arith, l), c.in-Some.ensures.within, omega (arith, l), λ vs x row s. let a = c.args in next_here (steps s) c.in-Some.ensures.ends (omega arith))

pub enter-requires : goal.enter-requires
enter-requires c = let l = rule-ahead c.in-Some.ensures.ends (omega arith) in (c.in-Some.ensures.within, omega (arith, l))

pub returns : goal.returns
returns c = let l = rule-ahead c.in-Some.ensures.ends (omega arith) in (omega (arith, l), omega arith, omega arith, λ vs x row s. let a = c.args in next-object (steps s) c.in-Some.ensures.ends _ (omega arith) (c.enter.ensures.3 vs))
