-- `verdict::widen` meets its contract: one row after the other.
use mathlib.Core.Path.{refl}
use native.Mathlib.Omega.{arith}
use Rattle.verdict.proofs.Table.{widening-start, widening-next, widening-done}
use Rattle.verdict.proofs.widen.Goals as goal

pub row-b-requires : goal.row-b-requires
row-b-requires c = (omega arith, omega arith)

pub loop-r-init : goal.loop-r-init
loop-r-init c = (omega arith, refl, widening-start c.args.rows.now c.args.k)

pub row-a-requires : goal.row-a-requires
row-a-requires c = (omega arith, omega arith)

pub widened-requires : goal.widened-requires
widened-requires c = tt

pub put-requires : goal.put-requires
put-requires c = (omega arith, omega arith)

pub overflow_add-r : goal.overflow_add-r
overflow_add-r c = omega arith

pub loop-r-smaller : goal.loop-r-smaller
loop-r-smaller c = omega arith

pub loop-r-preserved : goal.loop-r-preserved
loop-r-preserved c = (omega arith, omega (arith, c.put.auto.rows), widening-next c.args.rows.now c.loop-r.rows c.put.new.rows c.args.k c.loop-r.r c.row-a.result c.row-b.result c.widened.result c.row-a.ensures c.row-b.ensures c.widened.ensures c.put.ensures c.loop-r.invariant.2)

pub shape_of-rows : goal.shape_of-rows
shape_of-rows c = omega arith

pub returns : goal.returns
returns c = widening-done c.args.rows.now c.loop-r.rows c.args.n c.args.k c.loop-r.r c.loop-r-test.false c.loop-r.invariant.2
