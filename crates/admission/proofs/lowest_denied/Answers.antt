-- `admission::lowest_denied` meets its contract.
use mathlib.Core.Path.{sym, ◌∙◌}
use native.Mathlib.Omega.{arith}
use Rattle.admission.proofs.Laws.{flagged-at, lowest-on, lowest-here, lowest-end, denied-from}
use Rattle.admission.proofs.lowest_denied.Goals as goal

pub loop-l-init : goal.loop-l-init
loop-l-init c = denied-from _ _ _ c.requires.size_is

pub is_wrong-requires : goal.is_wrong-requires
is_wrong-requires c = flagged-at _ _ _ _ c.requires c.loop-l.auto.l (omega (arith, c.loop-l-test.true))

pub returns-then-is_wrong : goal.returns-then-is_wrong
returns-then-is_wrong c = lowest-here _ _ _ _ _ c.loop-l.auto.l (omega (arith, c.loop-l-test.true)) (sym c.is_wrong.ensures ∙ c.if-is_wrong.true) c.loop-l.invariant

pub loop-l-preserved : goal.loop-l-preserved
loop-l-preserved c = lowest-on _ _ _ _ _ (omega (arith, c.loop-l-test.true)) (sym c.is_wrong.ensures ∙ c.if-is_wrong.false) c.loop-l.invariant

pub returns : goal.returns
returns c = lowest-end _ _ c.args.size c.loop-l.l _ (omega (arith, c.loop-l-test.false)) c.loop-l.invariant
