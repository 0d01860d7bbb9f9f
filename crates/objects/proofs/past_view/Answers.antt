-- `objects::past_view` meets its contract: the mark, the length of what stands behind, and that.
use native.Mathlib.Omega.{arith}
use mathlib.Core.Path.{sym, ◌∙◌}
use Rattle.objects.proofs.EndsLong.{ahead, view-short, no-view, view-off, view-missized, view-ends}
use Rattle.objects.proofs.past_view.Goals.{then-total-at-lt3-via-then-total-at-lt3, then-total-at-lt3-via-else-total-at-lt3+then-number-ne-MARK, else-number-size-via-then-number-size+else-number-size-2, else-number-size-via-else-number-size}
use Rattle.objects.proofs.Views.{body-exact}
use Rattle.objects.proofs.past_view.Goals as goal

pub returns-then-total-at-lt3-clause-ends : goal.returns-then-total-at-lt3-clause-ends
returns-then-total-at-lt3-clause-ends c =
    elim c.then-total-at-lt3.branch [
      | then-total-at-lt3-via-then-total-at-lt3 w ↦ view-short _ _ (omega arith)
      | then-total-at-lt3-via-else-total-at-lt3+then-number-ne-MARK w ↦ no-view _ _ (omega arith) (λ e. omega (arith, e))
    ]

pub returns-in_err-next-clause-ends : goal.returns-in_err-next-clause-ends
returns-in_err-next-clause-ends c = rw c.from_residual.ensures (view-off _ _ (omega arith) (omega arith) c.in_err-next.ensures.ends)

pub overflow_sub-size : goal.overflow_sub-size
overflow_sub-size c = let h = ahead (body-exact _) c.in_ok-next.ensures.ends (omega arith) in omega (arith, h)

pub returns-then-number-size-2-clause-ends : goal.returns-then-number-size-2-clause-ends
returns-then-number-size-2-clause-ends c = view-ends _ _ (omega arith) (omega arith) c.in_ok-next.ensures.ends c.in_ok-next.ensures.within (sym c.number-2.ensures.0 ∙ c.if-number-size.true) (sym c.number-then-number-size.ensures.0 ∙ c.if-number-size-2.true)

pub returns-else-number-size-clause-ends : goal.returns-else-number-size-clause-ends
returns-else-number-size-clause-ends c =
    view-missized _ _ (omega arith) (omega arith) c.in_ok-next.ensures.ends c.in_ok-next.ensures.within (λ e.
    elim c.else-number-size.branch [
      | else-number-size-via-then-number-size+else-number-size-2 w ↦ w.if-number-size-2.false (w.number-then-number-size.ensures.0 ∙ e.1)
      | else-number-size-via-else-number-size w ↦ w.if-number-size.false (c.number-2.ensures.0 ∙ e.0)
    ])
