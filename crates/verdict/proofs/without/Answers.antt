-- `verdict::without` meets its contract: what is left is never more than what was looked at.
use mathlib.Core.Path.{refl, ap, ◌∙◌}
use native.Mathlib.Omega.{arith}
use lib.ListN.{length, get_or, length-set}
use Rattle.verdict.proofs.without.Goals as goal
use Rattle.verdict.proofs.without.Goals.{then-not-has, else-not-has}

pub loop-j-init : goal.loop-j-init
loop-j-init c = (refl, omega arith, omega arith)

pub has-requires : goal.has-requires
has-requires c = tt

pub bounds-wanted-j : goal.bounds-wanted-j
bounds-wanted-j c = omega arith

pub bounds-wanted-k : goal.bounds-wanted-k
bounds-wanted-k c = omega arith

pub overflow_add-k : goal.overflow_add-k
overflow_add-k c = omega arith

pub overflow_add-j : goal.overflow_add-j
overflow_add-j c = omega arith

pub loop-j-smaller : goal.loop-j-smaller
loop-j-smaller c = omega arith

pub loop-j-preserved : goal.loop-j-preserved
loop-j-preserved c =
    elim c.if-not-has.branch [
      | then-not-has w ↦ (omega (arith, ap length w.wanted-is ∙ length-set c.loop-j.wanted c.loop-j.k (get_or c.loop-j.wanted c.loop-j.j 0), c.loop-j.invariant.0), omega (arith, w.k-is, c.loop-j.invariant.1), omega arith)
      | else-not-has w ↦ (omega (arith, ap length w.wanted-is, c.loop-j.invariant.0), omega (arith, w.k-is, c.loop-j.invariant.1), omega arith)
    ]

pub shape_of-wanted : goal.shape_of-wanted
shape_of-wanted c = omega arith

pub returns : goal.returns
returns c = omega arith
