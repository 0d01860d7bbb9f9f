-- `objects::past_common` meets its contract: the words passed are those of the common part.
use native.Mathlib.Omega.{arith}
use mathlib.Core.Path.{sym, ◌∙◌}
use borrow.Author.Count.{below_more}
use Rattle.objects.proofs.EndsLong.{packed-length, words-few, words_are, words-not}
use Rattle.objects.proofs.past_common.Goals as goal

pub returns-then-n-total-clause-ends : goal.returns-then-n-total-clause-ends
returns-then-n-total-clause-ends c = let h = packed-length c.args.common.now in words-few _ _ (omega arith) (omega (arith, h))

pub loop-i-init : goal.loop-i-init
loop-i-init c = λ k l. absurd (omega arith)

pub returns-then-number-common_word-clause-ends : goal.returns-then-number-common_word-clause-ends
returns-then-number-common_word-clause-ends c = let h = packed-length c.args.common.now in words-not _ _ c.loop-i.i (omega (arith, h)) (omega (arith, h)) (λ e. c.if-number-common_word.true (c.number.ensures.0 ∙ e ∙ sym c.common_word.ensures))

pub loop-i-preserved : goal.loop-i-preserved
loop-i-preserved c = below_more _ _ c.loop-i.invariant (sym c.number.ensures.0 ∙ c.if-number-common_word.false ∙ c.common_word.ensures)

pub returns-clause-ends : goal.returns-clause-ends
returns-clause-ends c = let h = packed-length c.args.common.now in words_are _ _ (omega (arith, h)) (λ k l. c.loop-i.invariant k (omega (arith, h, l))) (omega (arith, h))
