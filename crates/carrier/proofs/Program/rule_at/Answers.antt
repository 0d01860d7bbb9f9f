-- `carrier::Program::rule_at` meets its contract.
use mathlib.Core.Path.{refl}
use native.Mathlib.Omega.{arith}
use Rattle.carrier.proofs.Laws.{rule-zero, rule-past, upto-found, upto_next, upto-none}
use Rattle.carrier.proofs.Program.rule_at.Goals as goal
use Rattle.carrier.proofs.Program.rule_at.Goals.{then-l-eq0-via-then-l-eq0, then-l-eq0-via-else-l-eq0+then-number-l}

pub returns-then-l-eq0 : goal.returns-then-l-eq0
returns-then-l-eq0 c =
    elim c.then-l-eq0.branch [
      | then-l-eq0-via-then-l-eq0 w ↦ record { is = (rule-zero c.args.self.sheet.now c.args.l w.if-l-eq0.true).0; low = tt }
      | then-l-eq0-via-else-l-eq0+then-number-l w ↦ record { is = (rule-past c.args.self.sheet.now _ c.args.l w.number.ensures.0 w.if-number-l.true).0; low = tt }
    ]

pub returns-then-location-l : goal.returns-then-location-l
returns-then-location-l c =
    record {
      is = (upto-found _ c.loop-k.invariant (omega (arith, c.loop-k-test.true)) refl c.requires c.if-l-eq0.false (omega (arith, c.if-number-l.false, c.number.ensures.0)) c.location.ensures.0 c.if-location-l.true).0;
      low = omega (arith, c.loop-k.invariant.low, c.requires, c.loop-k-test.true);
    }

pub loop-k-preserved : goal.loop-k-preserved
loop-k-preserved c = upto_next _ c.loop-k.invariant (omega (arith, c.loop-k-test.true)) c.location.ensures.0 (omega (arith, c.if-location-l.false))

pub returns : goal.returns
returns c = record { is = (upto-none c.loop-k.invariant (omega (arith, c.loop-k-test.false)) refl c.if-l-eq0.false (omega (arith, c.if-number-l.false, c.number.ensures.0))).0; low = tt }
