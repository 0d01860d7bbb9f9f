use borrow.Author.Rules.{rules}
use Rattle.mapper.proofs.Made.{made-end, made-never, made-next}
use native.Mathlib.Omega.{arith}
use mathlib.Core.Path.{refl, ◌∙◌}
use Rattle.mapper.proofs.put_made.Goals as goal

pub loop-j-init : goal.loop-j-init
loop-j-init c = (omega arith, omega (arith, c.requires.0.more), refl, c.requires.0.inside, λ out' m. m)

pub overflow_mul-j : goal.overflow_mul-j
overflow_mul-j c = omega (arith, c.loop-j-test.true, c.number-j-end.ensures.1)

pub overflow_add-j : goal.overflow_add-j
overflow_add-j c = omega (arith, c.loop-j-test.true, c.number-j-end.ensures.1)

pub overflow_mul-j-in-loop-j : goal.overflow_mul-j-in-loop-j
overflow_mul-j-in-loop-j c = omega (arith, c.loop-j-test.true, c.number-j-end.ensures.1)

pub overflow_add-j-in-loop-j : goal.overflow_add-j-in-loop-j
overflow_add-j-in-loop-j c = omega (arith, c.loop-j-test.true, c.number-j-end.ensures.1)

pub first_use-u-requires : goal.first_use-u-requires
first_use-u-requires c = (c.loop-j.invariant.3, c.requires.0.kept)

pub end_of-end-requires : goal.end_of-end-requires
end_of-end-requires c = omega (arith, c.loop-j-test.true, c.number-j-end.ensures.1)

pub shape_of-out-then-end-k : goal.shape_of-out-then-end-k
shape_of-out-then-end-k c = c.loop-j.invariant.2

pub returns-then-end-k : goal.returns-then-end-k
returns-then-end-k c = c.loop-j.invariant.4 _ (made-never _ _ _ _ _ _ (omega (arith, c.loop-j-test.true, c.number-j-end.ensures.0)) c.end_of-end.ensures c.if-end-k.true)

pub put_levels-requires : goal.put_levels-requires
put_levels-requires c = (omega (arith, c.if-end-k.false), omega (arith, c.end_of-end.ensures.low, c.requires.0.few), omega (arith, c.end_of-end.ensures.low, c.requires.1), omega (arith, c.end_of-end.ensures.low, c.requires.2, c.loop-j.invariant.2))

pub loop-j-preserved : goal.loop-j-preserved
loop-j-preserved c = (omega (arith, c.loop-j.invariant.0, c.if-end-k.false), c.end_of-end.ensures.low, search rules ∙ c.loop-j.invariant.2, c.first_use-u.ensures.inside, λ out' m. c.loop-j.invariant.4 out' (made-next _ _ _ _ _ _ (omega (arith, c.loop-j-test.true, c.number-j-end.ensures.0)) c.end_of-end.ensures c.first_use-u.ensures c.number-section.ensures.0 c.number-operand.ensures.0 c.put_levels.ensures m))

pub shape_of-out : goal.shape_of-out
shape_of-out c = c.loop-j.invariant.2

pub returns : goal.returns
returns c = c.loop-j.invariant.4 _ (made-end (omega (arith, c.loop-j-test.false, c.number-j-end.ensures.0)))
