use Prim.Native.Nat.{ℕ, ◌+◌, ◌*◌, ◌-◌}
use mathlib.Core.Path.{refl, ap, ◌∙◌}
use mathlib.Core.List.{◌∷◌, []}
use native.Mathlib.Omega.{arith}
use Rattle.emitter.specs.Words.{puts, cut}
use Rattle.emitter.proofs.Labels.{labels-none, labels-more, labels-end}
use Rattle.emitter.proofs.emit_labels.Goals as goal

pub loop-i-init : goal.loop-i-init
loop-i-init c = let a = c.args in (refl, labels-none a.cells.now a.p a.j a.out.now a.at a.from _ _ _ (omega arith) (omega arith) (omega arith))

pub loop-i-preserved : goal.loop-i-preserved
loop-i-preserved c =
    let a = c.args in
    let o = c.loop-i in
    let l = a.at + 2 * o.i in
    (c.put_span.auto.out ∙ o.invariant.0, labels-more a.cells.now a.p a.j a.out.now a.at a.from (a.p + o.i) l (a.j - o.i) _ _ _ o.out _ (omega arith) (omega arith) (omega arith) (omega (arith, c.loop-i-test.true)) (c.put_span.ensures ∙ ap (λ (i : ℕ). puts o.out l (i ∷ cut (l + 1 - a.from) ∷ [])) c.cell.ensures) o.invariant.1)

pub returns : goal.returns
returns c =
    let a = c.args in
    let o = c.loop-i in
    labels-end a.cells.now a.p a.j a.out.now a.at a.from (a.p + o.i) (a.at + 2 * o.i) (a.j - o.i) o.out (omega (arith, c.loop-i-test.false)) o.invariant.1
