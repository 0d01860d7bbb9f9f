-- `Walk::step_return` meets its contract.
use mathlib.Core.Path.{◌≡◌, sym, ap, ◌∙◌}
use native.Mathlib.Omega.{arith}
use Prim.Native.Nat.{◌-◌, ◌≤◌, ◌<◌}
use lib.ListN.{get_or}
use borrow.Author.Tests.{eq-eqb, ne_eqb, le-leb, lt-leb}
use Rattle.walker.specs.Shape.{size, back_to, return_of}
use Rattle.walker.specs.Steps.{took_of}
use Rattle.walker.specs.declared.Walk.{Walk}
use Rattle.walker.proofs.Walk.step_return.Goals.{then-to-eq0-via-then-to-eq0, then-to-eq0-via-else-to-eq0+then-n-to}
use Rattle.walker.proofs.Walk.step_return.Goals as goal

pub returns-then-n-at : goal.returns-then-n-at
returns-then-n-at c = absurd (omega (arith, c.if-n-at.true, c.requires.1, c.requires.2))

pub returns-then-at-eq0 : goal.returns-then-at-eq0
unfolding return_of
returns-then-at-eq0 c = simp (eq-eqb _ _ c.if-at-eq0.true) c.took-then-at-eq0.ensures

pub returns-then-to-eq0 : goal.returns-then-to-eq0
unfolding return_of back_to
returns-then-to-eq0 c =
    let a = c.args in
    let l = get_or a.self.returns (a.self.at.depth - 1) 0 in
    let e : c.ret-w.result.at.location ≡ l = ap (λ (w : Walk). w.at.location) c.ret-w.ensures in
    elim c.then-to-eq0.branch [
      | then-to-eq0-via-then-to-eq0 w ↦ simp (ne_eqb a.self.at.depth 0 c.if-at-eq0.false, eq-eqb l 0 (sym e ∙ w.if-to-eq0.true)) c.took-then-to-eq0.ensures
      | then-to-eq0-via-else-to-eq0+then-n-to w ↦
          let h : size a.t.now < l = omega (arith, e, w.if-n-to.true, c.requires.0) in
          simp (ne_eqb a.self.at.depth 0 c.if-at-eq0.false, ne_eqb l 0 (λ z. w.if-to-eq0.false (e ∙ z)), lt-leb _ _ h) c.took-then-to-eq0.ensures
    ]

pub returns : goal.returns
unfolding return_of back_to took_of
returns c =
    let a = c.args in
    let l = get_or a.self.returns (a.self.at.depth - 1) 0 in
    let e : c.ret-w.result.at.location ≡ l = ap (λ (w : Walk). w.at.location) c.ret-w.ensures in
    let h : l ≤ size a.t.now = omega (arith, e, c.if-n-to.false, c.requires.0) in
    simp (ne_eqb a.self.at.depth 0 c.if-at-eq0.false, ne_eqb l 0 (λ z. c.if-to-eq0.false (e ∙ z)), le-leb _ _ h, c.says.ensures, c.ret-w.ensures)
