-- `verdict::opened` meets its contract: what is left to look at opens exactly if all does.
use mathlib.Core.Path.{refl, sym, ◌∙◌}
use native.Mathlib.Omega.{arith}
use Rattle.verdict.proofs.Listed.{open-split, open-end}
use Rattle.verdict.proofs.opened.Goals as goal

pub loop-i-init : goal.loop-i-init
loop-i-init c = (omega arith, refl)

pub bounds-cells-i : goal.bounds-cells-i
bounds-cells-i c = omega arith

pub told-requires : goal.told-requires
told-requires c = omega arith

pub returns-then-told : goal.returns-then-told
returns-then-told c =
    let s = open-split c.args.cells.now c.args.facts.now c.args.m c.args.r c.loop-i.i c.args.to c.loop-i-test.true (omega arith) in
    sym (c.loop-i.invariant.1 ∙ (s ∙ rw (sym c.told.ensures ∙ c.if-told.true) refl))

pub overflow_add-i : goal.overflow_add-i
overflow_add-i c = omega arith

pub loop-i-smaller : goal.loop-i-smaller
loop-i-smaller c = omega arith

pub loop-i-preserved : goal.loop-i-preserved
loop-i-preserved c =
    let s = open-split c.args.cells.now c.args.facts.now c.args.m c.args.r c.loop-i.i c.args.to c.loop-i-test.true (omega arith) in
    (omega arith, c.loop-i.invariant.1 ∙ (s ∙ rw (sym c.told.ensures ∙ c.if-told.false) refl))

pub returns : goal.returns
returns c = sym (c.loop-i.invariant.1 ∙ open-end c.args.cells.now c.args.facts.now c.args.m c.args.r c.loop-i.i c.args.to c.loop-i-test.false)
