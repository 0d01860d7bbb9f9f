-- `verdict::tried_to_fixpoint` meets its contract: after a look that brought values any look does.
use mathlib.Core.Path.{refl, sym}
use native.Mathlib.Omega.{arith}
use lib.Seq.{length-take-le}
use Rattle.verdict.proofs.Looking.{gather-first, gather-nothing, take-most, look_at, tried-more}
use Rattle.verdict.proofs.tried_to_fixpoint.Goals as goal

pub slice_bounds-wanted-end : goal.slice_bounds-wanted-end
slice_bounds-wanted-end c = omega (arith, c.gathered-g.ensures.few, c.gathered-g.auto.wanted)

pub slice_bounds-tried-end : goal.slice_bounds-tried-end
slice_bounds-tried-end c = sym (length-take-le c.gathered-g.result.count c.gathered-g.new.wanted c.gathered-g.ensures.few)

pub tried-t-requires : goal.tried-t-requires
tried-t-requires c = (omega (arith, take-most c.gathered-g.result.count c.gathered-g.new.wanted, c.gathered-g.ensures.few, c.gathered-g.auto.wanted), c.requires.2, c.requires.3)

pub facts_before-had-requires : goal.facts_before-had-requires
facts_before-had-requires c = tt

pub loop-had-init : goal.loop-had-init
loop-had-init c =
    let a = c.args in
    let t = c.tried-t in
    let x = c.tried-t.ensures.told _ _ (gather-nothing a.cells.now c.gathered-g.result.next a.facts.now a.k.count a.r _) in
    (refl, x.looks.widens.facts.room, omega (arith, c.gathered-g.ensures.few, c.gathered-g.auto.wanted), omega arith, look_at _ _ _ _ _ _ _ _ _ c.tried-t.ensures, omega (arith, c.gathered-g.auto.wanted), λ j old h y. y)

pub slice_bounds-without-end : goal.slice_bounds-without-end
slice_bounds-without-end c = sym c.loop-had.invariant.5

pub without-n-requires : goal.without-n-requires
without-n-requires c = omega (arith, c.loop-had.invariant.2, c.loop-had.invariant.5)

pub slice_bounds-wanted-end-in-loop-had : goal.slice_bounds-wanted-end-in-loop-had
slice_bounds-wanted-end-in-loop-had c = omega (arith, c.without-n.ensures, c.loop-had.invariant.2)

pub slice_bounds-tried-end-in-loop-had : goal.slice_bounds-tried-end-in-loop-had
slice_bounds-tried-end-in-loop-had c = sym (length-take-le c.without-n.result c.without-n.new.wanted (omega (arith, c.without-n.ensures, c.without-n.auto.wanted, c.loop-had.invariant.2, c.loop-had.invariant.5)))

pub tried-t-requires-in-loop-had : goal.tried-t-requires-in-loop-had
tried-t-requires-in-loop-had c = (omega (arith, take-most c.without-n.result c.without-n.new.wanted, c.without-n.ensures, c.loop-had.invariant.2), c.loop-had.invariant.1, c.requires.3)

pub loop-had-smaller : goal.loop-had-smaller
loop-had-smaller c = omega (arith, c.loop-had.invariant.1, c.loop-had-test.true, c.tried-t-in-loop-had.auto.facts)

pub loop-had-preserved : goal.loop-had-preserved
loop-had-preserved c =
    let a = c.args in
    let l = c.loop-had in
    let t = c.tried-t-in-loop-had in
    let x = c.tried-t-in-loop-had.ensures.told _ _ (gather-nothing a.cells.now c.gathered-g.result.next c.loop-had.facts c.loop-had.t.known.count a.r _) in (
      omega (arith, c.tried-t-in-loop-had.auto.facts, c.loop-had.invariant.0),
      x.looks.widens.facts.room,
      omega (arith, c.without-n.ensures, c.loop-had.invariant.2),
      omega (arith, c.loop-had-test.true, c.loop-had.invariant.3),
      look_at _ _ _ _ _ _ _ _ _ c.tried-t-in-loop-had.ensures,
      omega (arith, c.without-n.auto.wanted, c.loop-had.invariant.5),
      λ j old h y. tried-more a.cells.now a.starts.now a.r j old a.from a.to c.loop-had.t c.loop-had.facts _ _ c.tried-t-in-loop-had.result c.tried-t-in-loop-had.new.facts c.loop-had.invariant.4 (omega (arith, h, c.loop-had.invariant.3, c.loop-had-test.true)) (c.loop-had.invariant.6 j old h y) c.tried-t-in-loop-had.ensures,
    )

pub shape_of-facts : goal.shape_of-facts
shape_of-facts c = omega (arith, c.tried-t.auto.facts, c.loop-had.invariant.0)

pub returns : goal.returns
returns c =
    let a = c.args in
    let t = c.tried-t in
    let g = c.gathered-g in
    let x = c.tried-t.ensures.told a.from a.to (gather-first a.cells.now a.from a.to a.facts.now a.k.count a.r c.gathered-g.new.wanted c.gathered-g.result c.gathered-g.ensures) in
    c.loop-had.invariant.6 a.k a.facts.now (c.facts_before-had.ensures (omega (arith, x.looks.widens.facts.more))) x
