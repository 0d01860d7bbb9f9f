-- `Registers::back_to` meets its contract.
use native.Mathlib.Omega.{arith}
use Prim.Native.Nat.{◌≤◌, ◌<◌}
use borrow.Author.Tests.{le-leb, lt-leb, eq-eqb, ne_eqb}
use Rattle.walker.specs.Shape.{size}
use Rattle.walker.specs.Shape.{back_to}
use Rattle.walker.proofs.Registers.back_to.Goals.{then-to-eq0-via-then-to-eq0, then-to-eq0-via-else-to-eq0+then-n-to}
use Rattle.walker.proofs.Registers.back_to.Goals as goal

-- `Registers::back_to` meets its contract.
pub returns-then-to-eq0 : goal.returns-then-to-eq0
unfolding back_to
returns-then-to-eq0 c =
    let a = c.args in
    elim c.then-to-eq0.branch [
      | then-to-eq0-via-then-to-eq0 w ↦ simp (eq-eqb _ _ w.if-to-eq0.true)
      | then-to-eq0-via-else-to-eq0+then-n-to w ↦
          let h : size a.t.now < a.to = omega (arith, w.if-n-to.true, c.requires.0) in
          simp (ne_eqb a.to 0 w.if-to-eq0.false, lt-leb _ _ h)
    ]

pub returns : goal.returns
unfolding back_to
returns c =
    let a = c.args in
    let h : a.to ≤ size a.t.now = omega (arith, c.requires.0) in
    simp (ne_eqb a.to 0 c.if-to-eq0.false, le-leb _ _ h, c.popped_to.ensures)
