-- `carrier::rule_named` meets its contract.
use mathlib.Core.Path.{refl}
use native.Mathlib.Omega.{arith}
use Rattle.carrier.proofs.Laws.{sought-found, sought-next, sought-none}
use Rattle.carrier.proofs.rule_named.Goals as goal

pub returns-then-same_names : goal.returns-then-same_names
returns-then-same_names c =
    record {
      is = (sought-found _ c.loop-j.invariant refl (omega (arith, c.loop-j-test.true, c.number-j-end.ensures.0)) c.requires.1 c.same_names.ensures c.if-same_names.true).0;
      low = omega (arith, c.loop-j-test.true, c.number-j-end.ensures.0, c.requires.1);
    }

pub loop-j-preserved : goal.loop-j-preserved
loop-j-preserved c = sought-next _ c.loop-j.invariant (omega (arith, c.loop-j-test.true, c.number-j-end.ensures.0)) c.same_names.ensures c.if-same_names.false

pub returns : goal.returns
returns c = record { is = (sought-none c.loop-j.invariant refl (omega (arith, c.loop-j-test.false, c.number-j-end.ensures.0))).0; low = tt }
