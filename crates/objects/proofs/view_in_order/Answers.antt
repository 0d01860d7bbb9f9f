-- `objects::view_in_order` meets its contract: its pairs and its rules stand where the code looks for them.
use Rattle.machine.specs.Bytes.{words_of}
use Rattle.objects.proofs.ViewAt.{view-at, parts-by, pairs-there, no-rule, a-pair-fails, rules-decide}
use mathlib.Core.Path.{refl, sym, ◌∙◌}
use native.Mathlib.Omega.{arith}
use Rattle.objects.proofs.view_in_order.Goals as goal

pub returns-then-total-at : goal.returns-then-total-at
returns-then-total-at c =
    let a = c.args in
    λ hs m v k h s e.
    let y = view-at (words_of a.objects.now) a.common.now v a.at k e in
    let z = y.inside in
    absurd (omega (arith, z))

pub returns-in_default : goal.returns-in_default
returns-in_default c =
    let a = c.args in
    λ hs m v k h s e.
    let y = view-at (words_of a.objects.now) a.common.now v a.at k e in
    absurd (pairs-there y _ _ refl c.number.ensures.0 c.in_default.ensures.ends)

pub returns-then-rules-eq0 : goal.returns-then-rules-eq0
returns-then-rules-eq0 c =
    let a = c.args in
    λ hs m v k h s e.
    let y = view-at (words_of a.objects.now) a.common.now v a.at k e in
    no-rule hs m v (sym y.rule-count ∙ sym c.number-2.ensures.0 ∙ c.if-rules-eq0.true)

pub returns-else-pairs_in_order : goal.returns-else-pairs_in_order
returns-else-pairs_in_order c =
    let a = c.args in
    λ hs m v k h s e.
    let y = view-at (words_of a.objects.now) a.common.now v a.at k e in
    rw c.if-pairs_in_order.false (a-pair-fails hs m v (λ q. c.if-rules-eq0.false (c.number-2.ensures.0 ∙ y.rule-count ∙ q)) _ (c.pairs_in_order.ensures hs m v h s (parts-by y _ _ _ _ refl c.number.ensures.0 c.number-2.ensures.0 c.in-Some.ensures.ends).1) c.if-pairs_in_order.false)

pub returns-then-pairs_in_order : goal.returns-then-pairs_in_order
returns-then-pairs_in_order c =
    let a = c.args in
    λ hs m v k h s e.
    let y = view-at (words_of a.objects.now) a.common.now v a.at k e in
    let z = (parts-by y _ _ _ _ refl c.number.ensures.0 c.number-2.ensures.0 c.in-Some.ensures.ends).1 in
    rules-decide hs m v (λ q. c.if-rules-eq0.false (c.number-2.ensures.0 ∙ y.rule-count ∙ q)) _ (c.pairs_in_order.ensures hs m v h s z) c.if-pairs_in_order.true _ (c.rules_in_order.ensures hs v h z)
