use mathlib.Core.Path.{refl}
use Rattle.loader.proofs.Laws.{back_is, along-next, along-stop, along-end, some-marked, none-marked, some-worked, none-worked}
use Rattle.loader.proofs.mark_labels.Goals as goal

pub returns-in_err-at : goal.returns-in_err-at
returns-in_err-at c = none-marked c.from_residual.ensures (along-stop c.loop-i.invariant c.saturating_sub.result c.loop-i-test.true (back_is _ _ c.word_at-x.result _ c.word_at-x.ensures.0 c.saturating_sub.ensures) (none-worked c.in_err-at.was c.mark.ensures) refl)

pub loop-i-preserved : goal.loop-i-preserved
loop-i-preserved c = along-next c.loop-i.invariant c.saturating_sub.result c.loop-i-test.true (back_is _ _ c.word_at-x.result _ c.word_at-x.ensures.0 c.saturating_sub.ensures) (some-worked c.in_ok-at.was c.mark.ensures) refl

pub returns : goal.returns
returns c = some-marked (along-end c.loop-i.invariant c.loop-i-test.false)
