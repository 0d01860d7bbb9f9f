-- `admission::is_wrong` meets its contract.
use native.Mathlib.Omega.{arith}
use Rattle.admission.proofs.Laws.{wrong-unseen, wrong-low, wrong-above, wrong-operation}
use Rattle.admission.proofs.is_wrong.Goals as goal

pub returns-then-seen-l-eq0 : goal.returns-then-seen-l-eq0
returns-then-seen-l-eq0 c = wrong-unseen _ _ _ _ c.requires c.if-seen-l-eq0.true

pub returns-in-256-to-1279 : goal.returns-in-256-to-1279
returns-in-256-to-1279 c = wrong-operation _ _ _ _ c.requires _ _ c.word_at-i.ensures.0 c.if-seen-l-eq0.false (omega arith) (omega arith) c.grants.ensures

pub returns-in_default : goal.returns-in_default
returns-in_default c = wrong-low _ _ _ _ c.requires _ c.word_at-i.ensures.0 (omega arith)

pub returns-in_default-2 : goal.returns-in_default-2
returns-in_default-2 c = wrong-above _ _ _ _ c.requires _ c.word_at-i.ensures.0 (omega arith)
