-- `verdict::arrows` meets its contract: row by row, by the laws of `Table`.
use mathlib.Core.Path.{refl}
use native.Mathlib.Omega.{arith}
use Rattle.verdict.specs.Told.{known_in}
use Rattle.verdict.proofs.Table.{filling-start, filling-next, filling-done}
use Rattle.verdict.proofs.arrows.Goals as goal

pub loop-r-init : goal.loop-r-init
loop-r-init c = let a = c.args in (omega arith, refl, filling-start a.cells.now a.starts.now a.n (known_in a.k.passed a.facts.now a.k.count) a.rows.now)

pub slice_bounds-rule-end : goal.slice_bounds-rule-end
slice_bounds-rule-end c = omega arith

pub rule-w-requires : goal.rule-w-requires
rule-w-requires c = omega arith

pub put-requires : goal.put-requires
put-requires c = (omega arith, omega arith)

pub overflow_add-r : goal.overflow_add-r
overflow_add-r c = omega arith

pub loop-r-smaller : goal.loop-r-smaller
loop-r-smaller c = omega arith

pub loop-r-preserved : goal.loop-r-preserved
loop-r-preserved c =
    let a = c.args in
    let l = c.loop-r in
    (omega arith, omega (arith, c.put.auto.rows), filling-next a.cells.now a.starts.now a.n (known_in a.k.passed a.facts.now a.k.count) c.loop-r.r c.loop-r.looping c.loop-r.rows c.put.new.rows c.rule-w.result c.loop-r-test.true c.rule-w.ensures c.put.ensures c.loop-r.invariant.2)

pub shape_of-rows : goal.shape_of-rows
shape_of-rows c = omega arith

pub returns : goal.returns
returns c = let a = c.args in filling-done a.cells.now a.starts.now a.n (known_in a.k.passed a.facts.now a.k.count) c.loop-r.r c.loop-r.looping c.loop-r.rows (omega arith) c.loop-r.invariant.2
