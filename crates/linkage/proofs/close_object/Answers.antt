-- `linkage::close_object` meets its contract.
use mathlib.Core.Path.{refl, ap, ◌∙◌}
use native.Mathlib.Omega.{arith}
use Rattle.machine.proofs.Bytes.{length-words_of}
use Rattle.machine.specs.Bytes.{count, words_of}
use Rattle.linkage.specs.declared.Uses.{Uses}
use Rattle.linkage.proofs.Groups.{going-first, going_on, going_end, lows-as}
use Rattle.linkage.proofs.close_object.Goals as goal

pub overflow_add-cells : goal.overflow_add-cells
overflow_add-cells c = omega arith

pub loop-init : goal.loop-init
unfolding count
loop-init c = let a = c.args in (c.requires.0, omega (arith, c.min-n.ensures), refl, λ low h vs k e l. going-first (words_of a.objects.now) a.names.now low vs k a.cells.now a.from a.group.left e l c.min-n.ensures refl, omega (arith, length-words_of a.objects.now))

pub body_at-body-requires : goal.body_at-body-requires
body_at-body-requires c = c.loop.invariant.0

pub close-n-requires : goal.close-n-requires
unfolding count
close-n-requires c = let a = c.args in let g = c.requires in let y = c.body_at-body.ensures in let u = c.body_at-body.ensures.pairs in (c.body_at-body.ensures.inside, omega (arith, ap (λ (x : Uses). x.collected) u, g.1), omega (arith, ap (λ (x : Uses). x.collected) u, g.2), omega (arith, ap (λ (x : Uses). x.at) u, g.3), omega (arith, c.body_at-body.ensures.names, length-words_of a.objects.now), g.4)

pub overflow_add-at : goal.overflow_add-at
overflow_add-at c = omega (arith, c.body_at-body.ensures.inside, c.loop.invariant.4)

pub loop-preserved : goal.loop-preserved
loop-preserved c =
    let a = c.args in
    let o = c.loop in
    let y = c.body_at-body.ensures in (
      c.body_at-body.ensures.inside,
      omega (arith, c.close-n.ensures.bound.0, c.close-n.ensures.bound.1),
      c.close-n.ensures.bound.1 ∙ c.loop.invariant.2,
      λ low h vs k e l. going_on (words_of a.objects.now) a.names.now low vs k a.cells.now a.from a.group.left (c.loop.invariant.3 low h vs k e l) c.loop-test.true y (c.close-n.ensures.closed low (lows-as (words_of a.objects.now) a.sites.now a.lowest.now low c.body_at-body.ensures.pairs h)),
      c.loop.invariant.4,
    )

pub shape_of-cells : goal.shape_of-cells
shape_of-cells c = omega (arith, c.loop.invariant.2)

pub returns : goal.returns
returns c =
    let a = c.args in
    let o = c.loop in record { bound = (omega (arith, c.loop.invariant.1, c.loop.invariant.2), c.loop.invariant.2); closed = λ low h vs k e l. going_end (words_of a.objects.now) a.names.now low vs k a.cells.now a.from a.group.left (c.loop.invariant.3 low h vs k e l) c.loop-test.false c.loop.invariant.1 }
