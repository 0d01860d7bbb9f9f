-- `verdict::holds` meets its contract: what is left to look at has v exactly if all has.
use mathlib.Core.Path.{refl, sym, ◌∙◌}
use native.Mathlib.Omega.{arith}
use Rattle.verdict.proofs.Listed.{listed_next, listed_here, listed-end}
use Rattle.verdict.proofs.holds.Goals as goal

pub loop-i-init : goal.loop-i-init
loop-i-init c = (omega arith, refl)

pub bounds-cells-i : goal.bounds-cells-i
bounds-cells-i c = omega arith

pub returns-then-cells-i : goal.returns-then-cells-i
returns-then-cells-i c = sym (c.loop-i.invariant.1 ∙ listed_here c.args.cells.now c.args.v c.loop-i.i c.args.to c.loop-i-test.true (omega arith) c.if-cells-i.true)

pub overflow_add-i : goal.overflow_add-i
overflow_add-i c = omega arith

pub loop-i-smaller : goal.loop-i-smaller
loop-i-smaller c = omega arith

pub loop-i-preserved : goal.loop-i-preserved
loop-i-preserved c = (omega arith, c.loop-i.invariant.1 ∙ listed_next c.args.cells.now c.args.v c.loop-i.i c.args.to c.loop-i-test.true (omega arith) c.if-cells-i.false)

pub returns : goal.returns
returns c = sym (c.loop-i.invariant.1 ∙ listed-end c.args.cells.now c.args.v c.loop-i.i c.args.to c.loop-i-test.false)
