-- `objects::same_names` meets its contract: the lengths are equal, and each word passed.
use native.Mathlib.Omega.{arith}
use mathlib.Core.Path.{sym, ◌∙◌}
use borrow.Author.Count.{below_more}
use Rattle.objects.proofs.Compared.{name-inside, names_same, names-longer, names-other}
use Rattle.objects.proofs.same_names.Goals.{then-p-end-via-then-p-end, then-p-end-via-else-p-end+then-q-end}
use Rattle.objects.proofs.same_names.Goals as goal

pub returns-then-p-end : goal.returns-then-p-end
returns-then-p-end c =
    λ n m x y.
    let h = name-inside x in
    let k = name-inside y in
    elim c.then-p-end.branch [
      | then-p-end-via-then-p-end w ↦ absurd (omega (arith, h))
      | then-p-end-via-else-p-end+then-q-end w ↦ absurd (omega (arith, k))
    ]

pub returns-then-number-size : goal.returns-then-number-size
returns-then-number-size c = λ n m x y. names-longer x y (λ e. c.if-number-size.true (c.number.ensures.0 ∙ e ∙ sym c.number-size.ensures.0))

pub loop-i-init : goal.loop-i-init
loop-i-init c = λ k l. absurd (omega arith)

pub returns-then-number : goal.returns-then-number
returns-then-number c = λ n m x y. let a = c.number-size.ensures.0 in names-other x y c.loop-i.i (omega (arith, a)) (sym a ∙ sym c.if-number-size.false ∙ c.number.ensures.0) (λ e. c.if-number.true (c.number-in-loop-i.ensures.0 ∙ e ∙ sym c.number-in-loop-i-2.ensures.0))

pub loop-i-preserved : goal.loop-i-preserved
loop-i-preserved c = below_more _ _ c.loop-i.invariant (sym c.number-in-loop-i.ensures.0 ∙ c.if-number.false ∙ c.number-in-loop-i-2.ensures.0)

pub returns : goal.returns
returns c = λ n m x y. let a = c.number-size.ensures.0 in names_same x y (sym a ∙ sym c.if-number-size.false ∙ c.number.ensures.0) (λ k l. c.loop-i.invariant k (omega (arith, a, l)))
