-- `verdict::closed` meets its contract: one rule after the other may be gone through, by the laws of `Table`.
use mathlib.Core.Path.{refl}
use native.Mathlib.Omega.{arith}
use Rattle.verdict.proofs.Table.{closing-start, closing-next, closing-done}
use Rattle.verdict.proofs.closed.Goals as goal

pub loop-k-init : goal.loop-k-init
loop-k-init c = (omega arith, refl, closing-start c.args.rows.now c.args.n)

pub widen-requires : goal.widen-requires
widen-requires c = (omega arith, omega arith, omega arith)

pub overflow_add-k : goal.overflow_add-k
overflow_add-k c = omega arith

pub loop-k-smaller : goal.loop-k-smaller
loop-k-smaller c = omega arith

pub loop-k-preserved : goal.loop-k-preserved
loop-k-preserved c = (omega arith, omega (arith, c.widen.auto.rows), closing-next c.args.rows.now c.loop-k.rows c.widen.new.rows c.args.n c.loop-k.k c.loop-k-test.true c.widen.ensures c.loop-k.invariant.2)

pub shape_of-rows : goal.shape_of-rows
shape_of-rows c = omega arith

pub returns : goal.returns
returns c = closing-done c.args.rows.now c.loop-k.rows c.args.n c.loop-k.k (omega arith) c.loop-k.invariant.2
