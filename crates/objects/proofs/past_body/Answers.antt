-- `objects::past_body` meets its contract: the four numbers, then the common part, pairs and rules, each behind the other.
use native.Mathlib.Omega.{arith}
use Rattle.objects.proofs.EndsLong.{body-short, body-of-other, body-off-common, body-off-pairs, body-ends}
use Rattle.objects.proofs.past_body.Goals.{then-total-at-lt4-via-then-total-at-lt4, then-total-at-lt4-via-else-total-at-lt4+then-number-common}
use Rattle.objects.proofs.past_body.Goals as goal

pub returns-then-total-at-lt4-clause-ends : goal.returns-then-total-at-lt4-clause-ends
returns-then-total-at-lt4-clause-ends c =
    elim c.then-total-at-lt4.branch [
      | then-total-at-lt4-via-then-total-at-lt4 w ↦ body-short _ _ (omega arith)
      | then-total-at-lt4-via-else-total-at-lt4+then-number-common w ↦ body-of-other _ _ (omega arith) (λ e. omega (arith, e))
    ]

pub returns-in_err-pairs-clause-ends : goal.returns-in_err-pairs-clause-ends
returns-in_err-pairs-clause-ends c = rw c.from_residual.ensures (body-off-common _ _ (omega arith) (omega arith) c.in_err-pairs.ensures.ends)

pub returns-in_err-rules-clause-ends : goal.returns-in_err-rules-clause-ends
returns-in_err-rules-clause-ends c = rw c.from_residual-in_err-rules.ensures (body-off-pairs _ _ (omega arith) (omega arith) c.in_ok-pairs.ensures.ends (rw c.number-2.ensures.0 at c.in_err-rules.ensures.ends))

pub returns-clause-ends : goal.returns-clause-ends
returns-clause-ends c = body-ends _ _ (omega arith) (omega arith) c.in_ok-pairs.ensures.ends (rw c.number-2.ensures.0 at c.in_ok-rules.ensures.ends) (rw c.number-3.ensures.0 at c.past_rules.ensures.ends)
