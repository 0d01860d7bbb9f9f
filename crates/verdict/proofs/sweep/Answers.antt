-- `verdict::sweep` meets its contract: one rule after the other, the last first.
use Prim.Native.Nat.{◌-◌}
use mathlib.Core.Path.{◌≡◌, refl}
use native.Mathlib.Omega.{arith}
use Rattle.verdict.proofs.Looking.{sweep-start, sweep-next}
use Rattle.verdict.proofs.sweep.Goals as goal

pub loop-r-init : goal.loop-r-init
loop-r-init c = (omega arith, refl, sweep-start c.args.cells.now c.args.starts.now c.args.n c.args.k c.args.facts.now c.requires.0)

pub overflow_sub-r : goal.overflow_sub-r
overflow_sub-r c = omega arith

pub overflow_cast-r : goal.overflow_cast-r
overflow_cast-r c = omega arith

pub looked-j-requires : goal.looked-j-requires
looked-j-requires c = (c.loop-r.invariant.2.widens.facts.room, omega arith)

pub loop-r-smaller : goal.loop-r-smaller
loop-r-smaller c = omega arith

pub loop-r-preserved : goal.loop-r-preserved
loop-r-preserved c = (
  omega arith,
  omega (arith, c.looked-j.auto.facts),
  sweep-next c.args.cells.now c.args.starts.now c.args.n c.loop-r.r (c.loop-r.r - 1) c.args.k c.args.facts.now c.loop-r.j c.loop-r.facts c.looked-j.result c.looked-j.new.facts (omega arith) (omega arith) c.loop-r.invariant.2 c.looked-j.ensures,
)

pub shape_of-facts : goal.shape_of-facts
shape_of-facts c = omega arith

pub returns : goal.returns
returns c =
    let e : c.loop-r.r ≡ 0 = omega arith in
    rw e at c.loop-r.invariant.2
