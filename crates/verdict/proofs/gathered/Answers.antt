-- `verdict::gathered` meets its contract: one cell more each time.
use mathlib.Core.Path.{refl, sym, ap, ◌∙◌}
use native.Mathlib.Omega.{arith}
use lib.ListN.{length, length-set}
use Rattle.verdict.proofs.Growth.{gather-start, gather-skip, gather-more, gather-full, gather-done}
use Rattle.verdict.proofs.gathered.Goals as goal
use Rattle.verdict.proofs.gathered.Goals.{then-seeks+else-wanted-n, else-seeks}

pub loop-i-init : goal.loop-i-init
loop-i-init c = (omega arith, refl, gather-start c.args.cells.now c.args.from c.args.facts.now c.args.m c.args.r c.args.wanted.now)

pub seeks-requires : goal.seeks-requires
seeks-requires c = (omega arith, omega arith)

pub shape_of-wanted-then-wanted-n : goal.shape_of-wanted-then-wanted-n
shape_of-wanted-then-wanted-n c = omega arith

pub returns-then-wanted-n : goal.returns-then-wanted-n
returns-then-wanted-n c = gather-full c.args.cells.now c.args.from c.args.to c.args.facts.now c.args.m c.args.r c.loop-i.wanted c.loop-i.n c.loop-i.i c.loop-i-test.true (omega arith) (omega arith) c.loop-i.invariant.2

pub overflow_add-i : goal.overflow_add-i
overflow_add-i c = omega arith

pub cell-requires : goal.cell-requires
cell-requires c = tt

pub bounds-wanted-n : goal.bounds-wanted-n
bounds-wanted-n c = omega arith

pub overflow_add-n : goal.overflow_add-n
overflow_add-n c = omega arith

pub overflow_add-i-in-loop-i : goal.overflow_add-i-in-loop-i
overflow_add-i-in-loop-i c = omega arith

pub loop-i-smaller : goal.loop-i-smaller
loop-i-smaller c = omega arith

pub loop-i-preserved : goal.loop-i-preserved
loop-i-preserved c =
    let a = c.args in
    let l = c.loop-i in
    let e = c.seeks.ensures in
    elim c.if-seeks.branch [
      | then-seeks+else-wanted-n w ↦ (omega arith, omega (arith, ap length w.wanted-is ∙ length-set l.wanted l.n w.cell.result), rw (w.wanted-is, w.n-is) (gather-more a.cells.now a.from a.facts.now a.m a.r l.wanted l.n l.i w.cell.result (omega arith) w.cell.ensures l.invariant.2))
      | else-seeks w ↦ (omega arith, omega (arith, ap length w.wanted-is), rw (w.wanted-is, w.n-is) (gather-skip a.cells.now a.from a.facts.now a.m a.r l.wanted l.n l.i (sym e ∙ w.if-seeks.false) l.invariant.2))
    ]

pub shape_of-wanted : goal.shape_of-wanted
shape_of-wanted c = omega arith

pub returns : goal.returns
returns c = gather-done c.args.cells.now c.args.from c.args.to c.args.facts.now c.args.m c.args.r c.loop-i.wanted c.loop-i.n c.loop-i.i (omega arith) c.loop-i.invariant.0 c.loop-i.invariant.2
