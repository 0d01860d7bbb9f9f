-- `meter::rule_at` meets its contract.
use native.Mathlib.Omega.{arith}
use Rattle.meter.proofs.Words.{rule_found, rule-missing}
use Rattle.meter.proofs.rule_at.Goals.{else-r-starts-via-then-r-starts+else-starts-r, else-r-starts-via-else-r-starts}
use Rattle.meter.proofs.rule_at.Goals as goal

pub returns-then-starts-r-clause-index : goal.returns-then-starts-r-clause-index
returns-then-starts-r-clause-index c = rule_found c.starts_before-r.ensures c.if-r-starts.true c.if-starts-r.true

pub returns-else-r-starts-clause-index : goal.returns-else-r-starts-clause-index
returns-else-r-starts-clause-index c =
    rule-missing c.requires c.starts_before-r.ensures
    (λ z e. elim c.else-r-starts.branch [
      | else-r-starts-via-then-r-starts+else-starts-r w ↦ w.if-starts-r.false e
      | else-r-starts-via-else-r-starts w ↦ omega (arith, z, w.if-r-starts.false)
    ])
