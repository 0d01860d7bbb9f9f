-- `otherwise` meets its contract.
use Prim.Native.Nat.{◌+◌, ◌≤◌, ◌<◌}
use native.Mathlib.Omega.{arith}
use borrow.Author.Tests.{le-leb, lt-leb}
use Rattle.walker.specs.Shape.{otherwise_of}
use Rattle.walker.proofs.otherwise.Goals as goal

pub returns-then-end-n : goal.returns-then-end-n
unfolding otherwise_of
returns-then-end-n c =
    let a = c.args in
    let h : a.end + 1 ≤ a.n = omega (arith, c.if-end-n.true) in
    simp (le-leb _ _ h)

pub returns-else-end-n : goal.returns-else-end-n
unfolding otherwise_of
returns-else-end-n c =
    let a = c.args in
    let h : a.n < a.end + 1 = omega (arith, c.if-end-n.false) in
    simp (lt-leb _ _ h)
