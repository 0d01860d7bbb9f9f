-- `verdict::collected` meets its contract: one label more each time.
use mathlib.Core.Path.{refl, ◌∙◌}
use Rattle.verdict.proofs.Listed.{collect-next, collect-start, collect-done, collect-full}
use native.Mathlib.Omega.{arith}
use lib.ListN.{get_or, length-set}
use Rattle.verdict.proofs.collected.Goals as goal

pub loop-i-init : goal.loop-i-init
loop-i-init c = (omega arith, omega arith, omega arith, omega arith, refl, collect-start c.args.cells.now c.args.labels.now c.args.from c.args.n)

pub shape_of-labels-then-labels-k : goal.shape_of-labels-then-labels-k
shape_of-labels-then-labels-k c = omega arith

pub returns-then-labels-k : goal.returns-then-labels-k
returns-then-labels-k c =
    let a = c.args in record { within = omega arith; all = collect-full a.cells.now a.labels.now c.loop-i.labels a.from a.to a.n c.loop-i.i c.loop-i.k (omega arith) (omega arith) (omega arith) (omega arith) }

pub bounds-cells-i : goal.bounds-cells-i
bounds-cells-i c = omega arith

pub bounds-labels-k : goal.bounds-labels-k
bounds-labels-k c = omega arith

pub overflow_add-k : goal.overflow_add-k
overflow_add-k c = omega arith

pub overflow_add-i : goal.overflow_add-i
overflow_add-i c = omega arith

pub loop-i-smaller : goal.loop-i-smaller
loop-i-smaller c = omega arith

pub loop-i-preserved : goal.loop-i-preserved
loop-i-preserved c =
    let a = c.args in
    let I = c.loop-i.invariant in
    let z = length-set c.loop-i.labels c.loop-i.k (get_or a.cells.now c.loop-i.i 0) in
    (omega arith, omega arith, omega arith, omega (arith, z), z ∙ I.4, collect-next a.cells.now a.labels.now c.loop-i.labels a.from a.n c.loop-i.i c.loop-i.k (omega arith) (omega arith) (omega arith) I.5)

pub shape_of-labels : goal.shape_of-labels
shape_of-labels c = omega arith

pub returns : goal.returns
returns c =
    let a = c.args in
    let I = c.loop-i.invariant in record { within = omega arith; all = collect-done a.cells.now a.labels.now c.loop-i.labels a.from a.to a.n c.loop-i.i c.loop-i.k c.loop-i-test.false (omega arith) I.2 I.5 }
