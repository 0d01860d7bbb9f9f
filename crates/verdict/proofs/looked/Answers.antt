-- `verdict::looked` meets its contract: one look after the other, until the rule's end.
use mathlib.Core.Path.{refl}
use native.Mathlib.Omega.{arith}
use Rattle.verdict.proofs.Looking.{looks-next, looks-done}
use Rattle.verdict.proofs.looked.Goals as goal

pub loop-t-init : goal.loop-t-init
loop-t-init c = (refl, λ j old x. x)

pub tried_to_fixpoint-t-requires-in-loop-t : goal.tried_to_fixpoint-t-requires-in-loop-t
tried_to_fixpoint-t-requires-in-loop-t c =
    let l = c.loop-t in
    let x = c.loop-t.invariant.1 c.args.k c.args.facts.now c.tried_to_fixpoint-t.ensures.looks in
    (omega arith, x.inside, x.widens.facts.room, c.requires.1)

pub loop-t-smaller : goal.loop-t-smaller
loop-t-smaller c =
    let l = c.loop-t in
    let x = c.loop-t.invariant.1 c.args.k c.args.facts.now c.tried_to_fixpoint-t.ensures.looks in
    omega (arith, c.tried_to_fixpoint-t-in-loop-t.ensures.further c.loop-t-test.true, x.inside, c.loop-t-test.true)

pub loop-t-preserved : goal.loop-t-preserved
loop-t-preserved c =
    let a = c.args in
    let l = c.loop-t in
    let u = c.tried_to_fixpoint-t-in-loop-t in
    (omega (arith, c.tried_to_fixpoint-t-in-loop-t.auto.facts), λ j old x. looks-next a.cells.now a.starts.now a.r j old c.ahead-at.result c.loop-t.t c.loop-t.facts c.tried_to_fixpoint-t-in-loop-t.result c.tried_to_fixpoint-t-in-loop-t.new.facts (c.loop-t.invariant.1 j old x) c.tried_to_fixpoint-t-in-loop-t.ensures.looks)

pub shape_of-facts : goal.shape_of-facts
shape_of-facts c = omega (arith, c.tried_to_fixpoint-t.auto.facts)

pub returns : goal.returns
returns c =
    let a = c.args in
    let l = c.loop-t in
    looks-done a.cells.now a.starts.now a.r a.k a.facts.now c.number.result c.ahead-at.result c.loop-t.t c.loop-t.facts (rw c.wide.ensures.0 at c.number.ensures.0) c.ahead-at.ensures.there (omega arith) (c.loop-t.invariant.1 a.k a.facts.now c.tried_to_fixpoint-t.ensures.looks)
