-- `fetched` meets its contract.
use native.Mathlib.Omega.{arith}
use Prim.Native.Nat.{◌≤◌, ◌<◌}
use borrow.Author.Tests.{eq-eqb, ne_eqb, le-leb, lt-leb}
use Rattle.walker.specs.Shape.{size}
use Rattle.walker.specs.Steps.{number_at}
use Rattle.walker.proofs.fetched.Goals.{then-loc-eq0-via-then-loc-eq0, then-loc-eq0-via-else-loc-eq0+then-n-loc}
use Rattle.walker.proofs.fetched.Goals as goal

-- `fetched` meets its contract.
pub returns-then-loc-eq0 : goal.returns-then-loc-eq0
unfolding number_at
returns-then-loc-eq0 c =
    let a = c.args in
    elim c.then-loc-eq0.branch [
      | then-loc-eq0-via-then-loc-eq0 w ↦ simp (eq-eqb _ _ w.if-loc-eq0.true)
      | then-loc-eq0-via-else-loc-eq0+then-n-loc w ↦
          let h : size a.t.now < a.loc = omega (arith, w.if-n-loc.true, c.requires) in
          simp (ne_eqb a.loc 0 w.if-loc-eq0.false, lt-leb _ _ h)
    ]

pub returns : goal.returns
unfolding number_at
returns c =
    let a = c.args in
    let h : a.loc ≤ size a.t.now = omega (arith, c.if-n-loc.false, c.requires) in
    simp (ne_eqb a.loc 0 c.if-loc-eq0.false, le-leb _ _ h, c.word.ensures)
