-- `linkchecks::first_typed` meets its contract.
use native.Mathlib.Omega.{arith}
use mathlib.Core.Path.{sym, ◌∙◌}
use Rattle.linkchecks.proofs.Finding.{shows-some, untyped, typed-outside, typed-not, typed-is}
use Rattle.linkchecks.proofs.Rows.{viewed, finds-by, finds-none, first-typed-row}
use Rattle.linkchecks.proofs.first_typed.Goals.{then-gives-total-via-then-gives-total, then-gives-total-via-else-gives-total+then-number-eq0}
use Rattle.linkchecks.proofs.first_typed.Goals as goal

pub returns-in_err-gives : goal.returns-in_err-gives
returns-in_err-gives c = λ d n h. rw c.from_residual.ensures (finds-none _ (first-typed-row h.lengths h.objects h.as_many (viewed h).ruled ∙ untyped (c.first_rule-cursor.ensures.2 _ (viewed h)) c.in_err-gives.ensures.ends))

pub returns-then-gives-total : goal.returns-then-gives-total
returns-then-gives-total c =
    λ d n h.
    finds-none _ (first-typed-row h.lengths h.objects h.as_many (viewed h).ruled ∙ (
    elim c.then-gives-total.branch [
      | then-gives-total-via-then-gives-total w ↦ typed-outside (c.first_rule-cursor.ensures.2 _ (viewed h)) c.in_ok-gives.ensures.ends (omega arith)
      | then-gives-total-via-else-gives-total+then-number-eq0 w ↦ typed-not (c.first_rule-cursor.ensures.2 _ (viewed h)) c.in_ok-gives.ensures.ends (sym w.number.ensures.0 ∙ w.if-number-eq0.true)
    ]))

pub returns : goal.returns
returns c = λ d n h. let t = typed-is (c.first_rule-cursor.ensures.2 _ (viewed h)) c.in_ok-gives.ensures.ends (let i = c.in_ok-gives.ensures.within in omega (arith, i)) (omega arith) (λ z. c.if-number-eq0.false (c.number.ensures.0 ∙ z)) in finds-by _ _ _ (first-typed-row h.lengths h.objects h.as_many (viewed h).ruled ∙ t.is) (shows-some _ _ (c.found_at.ensures t.name t.tail t.here))
