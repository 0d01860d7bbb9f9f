-- `objects::same_common` meets its contract: the lengths are equal, and each byte passed.
use native.Mathlib.Omega.{arith}
use mathlib.Core.Path.{sym, ◌∙◌}
use borrow.Author.Count.{below_more}
use Rattle.objects.proofs.Compared.{name-inside, common-same, common-longer, common-other}
use Rattle.objects.proofs.same_common.Goals.{then-p-total-via-then-p-total, then-p-total-via-else-p-total+then-number-size}
use Rattle.objects.proofs.same_common.Goals as goal

pub returns-then-p-total : goal.returns-then-p-total
returns-then-p-total c =
    λ n x.
    let h = name-inside x in
    elim c.then-p-total.branch [
      | then-p-total-via-then-p-total w ↦ absurd (omega (arith, h))
      | then-p-total-via-else-p-total+then-number-size w ↦ common-longer x _ _ _ c.requires.1 (λ e. w.if-number-size.true (w.number.ensures.0 ∙ e))
    ]

pub loop-i-init : goal.loop-i-init
loop-i-init c = λ k l. absurd (omega arith)

pub returns-then-number-from : goal.returns-then-number-from
returns-then-number-from c = λ n x. common-other x _ _ _ c.requires.1 c.loop-i.i (omega arith) (sym c.number.ensures.0 ∙ c.if-number-size.false) (λ e. c.if-number-from.true (c.number-in-loop-i.ensures.0 ∙ e ∙ sym c.from.ensures))

pub loop-i-preserved : goal.loop-i-preserved
loop-i-preserved c = below_more _ _ c.loop-i.invariant (sym c.number-in-loop-i.ensures.0 ∙ c.if-number-from.false ∙ c.from.ensures)

pub returns : goal.returns
returns c = λ n x. common-same x _ _ _ c.requires.1 (sym c.number.ensures.0 ∙ c.if-number-size.false) (λ k l. c.loop-i.invariant k (omega (arith, l)))
