-- `partwriter::put_packed` meets its contract.
use mathlib.Core.Path.{◌≡◌, refl, ◌∙◌}
use Prim.Native.Nat.{◌+◌, ◌*◌}
use native.Mathlib.Omega.{arith}
use Rattle.partwriter.proofs.Putting.{puts-bound, puts_then, puts-next, puts-nothing, next-packed, no-packed}
use Rattle.partwriter.proofs.put_packed.Goals as goal

pub loop-i-init : goal.loop-i-init
loop-i-init c = (puts-bound c.counted-n.ensures, refl, λ o m h. puts_then c.counted-n.ensures h)

pub loop-i-preserved : goal.loop-i-preserved
loop-i-preserved c =
    let v = c.loop-i.invariant in
    let u = c.put-n.ensures in
    let e : 2 * (c.loop-i.i + 1) ≡ 2 * c.loop-i.i + 2 = omega arith in
    let g = next-packed c.args.common.now (2 * c.loop-i.i) _ (omega (arith, c.div_ceil-i-end.ensures, c.loop-i-test.true)) c.pair_at.ensures in
    (puts-bound u, u.leaves.size ∙ v.1, λ o m h. v.2 o m (puts-next g u (rw e at h)))

pub returns : goal.returns
returns c = c.loop-i.invariant.2 _ _ (puts-nothing (no-packed c.args.common.now (2 * c.loop-i.i) (omega (arith, c.div_ceil-i-end.ensures, c.loop-i-test.false))) c.loop-i.invariant.0)
