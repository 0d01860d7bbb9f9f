use Prim.Native.Nat.{ℕ}
use mathlib.Core.Path.{◌≡◌, ap, ◌∙◌}
use native.Mathlib.Omega.{arith}
use lib.ListN.{get_or}
use Rattle.sizes.specs.Heads.{cells_of, words_of, open_after}
use Rattle.sizes.specs.Located.{Scanned}
use Rattle.emitter.proofs.Leave.{all_in}
use Rattle.sizes.proofs.Leave.{runs_none, runs-more, runs-end, turn, head-cells, head-words}
use Rattle.sizes.proofs.scan.Goals as goal

pub loop-d-init : goal.loop-d-init
loop-d-init c = (omega arith, omega arith, omega arith, omega arith, runs_none c.args.cells.now c.args.p)

pub overflow_add-w : goal.overflow_add-w
overflow_add-w c = let P = c.requires in omega (arith, head-words c.cell-k.result)

pub overflow_add-q : goal.overflow_add-q
overflow_add-q c = let P = c.requires in omega (arith, head-cells c.cell-k.result)

pub loop-d-smaller : goal.loop-d-smaller
loop-d-smaller c = let P = c.requires in let o = c.loop-d in let t = turn c.args.cells.now c.args.p c.loop-d.q c.loop-d.w c.loop-d.d c.cell-k.result c.cell-k.ensures P.inside c.loop-d.invariant.0 c.loop-d-test.true c.loop-d.invariant.1 c.loop-d.invariant.2 c.loop-d.invariant.3 in
    omega (arith, t.less, c.open_after-d.ensures, c.cells_of-q.ensures)

pub loop-d-preserved : goal.loop-d-preserved
loop-d-preserved c = let P = c.requires in let o = c.loop-d in let a = c.args in
    let t = turn a.cells.now a.p c.loop-d.q c.loop-d.w c.loop-d.d c.cell-k.result c.cell-k.ensures P.inside c.loop-d.invariant.0 c.loop-d-test.true c.loop-d.invariant.1 c.loop-d.invariant.2 c.loop-d.invariant.3 in
    let e = c.cell-k.ensures in
    let x0 = c.cells_of-q.ensures in let y0 = c.words_of-w.ensures in let z0 = c.open_after-d.ensures in
    let x : c.cells_of-q.result ≡ cells_of (get_or a.cells.now c.loop-d.q 0) = x0 ∙ ap cells_of e in
    let y : c.words_of-w.result ≡ words_of (get_or a.cells.now c.loop-d.q 0) = y0 ∙ ap words_of e in
    let z : c.open_after-d.result ≡ open_after (get_or a.cells.now c.loop-d.q 0) c.loop-d.d = z0 ∙ ap (λ (k : ℕ). open_after k c.loop-d.d) e in
    let r = runs-more a.cells.now a.p c.loop-d.q c.loop-d.w c.loop-d.d c.loop-d-test.true c.loop-d.invariant.4 in
    (omega (arith, t.on), omega (arith, t.deep), omega (arith, t.near), omega (arith, t.few), rw (x, y, z) r)

pub returns : goal.returns
unfolding Scanned
returns c = let P = c.requires in let o = c.loop-d in let a = c.args in
    let r = runs-end a.cells.now a.p c.loop-d.q c.loop-d.w c.loop-d.d (omega arith) c.loop-d.invariant.4 in
    let l = c.min.ensures in record { scanned = λ n q e h. let v = r n q e h in let i = all_in h in (v.0, omega arith); moved = record { on = omega arith; inside = omega arith; few = omega arith } }
