-- `Registers::next` meets its contract.
use native.Mathlib.Omega.{arith}
use Prim.Native.Nat.{◌≤◌, ◌<◌}
use borrow.Author.Tests.{le-leb, lt-leb, eq-eqb, ne_eqb}
use Rattle.walker.specs.Shape.{size}
use Rattle.walker.specs.Shape.{step_of}
use Rattle.walker.proofs.Registers.next.Goals.{then-at-eq0-via-then-at-eq0, then-at-eq0-via-else-at-eq0+then-n-at}
use Rattle.walker.proofs.Registers.next.Goals as goal

pub returns-then-at-eq0 : goal.returns-then-at-eq0
unfolding step_of
returns-then-at-eq0 c =
    let a = c.args in
    elim c.then-at-eq0.branch [
      | then-at-eq0-via-then-at-eq0 w ↦ simp (eq-eqb _ _ w.if-at-eq0.true)
      | then-at-eq0-via-else-at-eq0+then-n-at w ↦
          let h : size a.t.now < a.self.location = omega (arith, c.table_words-n.ensures, w.if-n-at.true) in
          simp (ne_eqb a.self.location 0 w.if-at-eq0.false, lt-leb _ _ h)
    ]

pub returns : goal.returns
unfolding step_of
returns c =
    let a = c.args in
    let h : a.self.location ≤ size a.t.now = omega (arith, c.table_words-n.ensures, c.if-n-at.false) in
    simp (ne_eqb a.self.location 0 c.if-at-eq0.false, le-leb _ _ h, c.act.ensures, c.word.ensures)
