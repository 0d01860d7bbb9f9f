-- `linkage::close` meets its contract. The loop's invariant: whatever is appended next, with what is left to close it is all that is to be appended.
use mathlib.Core.List.{[], ◌∷◌}
use mathlib.Core.Path.{◌≡◌, refl, ◌∙◌}
use Prim.Native.Nat.{ℕ, ◌+◌, ◌-◌}
use native.Mathlib.Omega.{arith}
use borrow.Author.Rules.{rules}
use Rattle.linker.proofs.Passing.{starts, appends-next, appends-nothing}
use Rattle.linker.specs.Close.{close_cells}
use Rattle.machine.proofs.Bytes.{length-words_of}
use Rattle.machine.specs.Bytes.{count, words_of}
use Rattle.resolver.proofs.Appending.{appends-length, appends-bound, appends-then}
use Rattle.linkage.specs.Closing.{Lows}
use Rattle.linkage.proofs.Closing.{rest, goes_on, ends}
use Rattle.linkage.proofs.close.Goals as goal

pub overflow_add-end : goal.overflow_add-end
unfolding count
overflow_add-end c = omega (arith, length-words_of c.args.objects.now, c.requires.0)

pub overflow_add-cells : goal.overflow_add-cells
overflow_add-cells c = omega arith

pub loop-p-init : goal.loop-p-init
unfolding close_cells
loop-p-init c =
    let e = c.min-n.ensures in
    (search rules, refl, omega arith, refl, λ low h cs k g. appends-then (starts _ _ _ e) g)

pub turn-spot-requires : goal.turn-spot-requires
turn-spot-requires c =
    let g = c.requires in
    (g.1, g.2, g.3, omega (arith, g.4, c.loop-p.invariant.1), g.5)

pub loop-p-preserved : goal.loop-p-preserved
loop-p-preserved c =
    let o = c.loop-p in
    let a = c.args in
    let t = c.turn-spot in
    let u = c.put-n in
    let n = appends-length c.put-n.ensures in
    let m = appends-bound c.put-n.ensures in
    let g : (low : ℕ → ℕ) → Lows (words_of a.objects.now) a.sites.now a.lowest.now a.body.uses low
    → rest low (words_of a.objects.now) a.names.now (a.body.at + a.body.count) c.loop-p.p c.loop-p.spot ≡ c.turn-spot.result.cell ∷ rest low (words_of a.objects.now) a.names.now (a.body.at + a.body.count) (c.loop-p.p + 1) c.turn-spot.result =
    λ low h. goes_on low (words_of a.objects.now) a.names.now (a.body.at + a.body.count) c.loop-p.p c.loop-p.spot c.turn-spot.result _ c.loop-p-test.true c.loop-p.invariant.0 c.word-x.ensures (c.turn-spot.ensures.turned low h) in
    (c.loop-p.invariant.0, c.turn-spot.ensures.end ∙ c.loop-p.invariant.1, omega (arith, n, m), n ∙ c.loop-p.invariant.3, λ low h cs k x. c.loop-p.invariant.4 low h cs k (appends-next (g low h) c.put-n.ensures x))

pub shape_of-cells : goal.shape_of-cells
shape_of-cells c = omega (arith, c.loop-p.invariant.3)

pub returns : goal.returns
returns c =
    let o = c.loop-p in
    let a = c.args in
    let z : a.body.at + a.body.count - a.body.at ≡ a.body.count = omega arith in
    let e : (low : ℕ → ℕ) → rest low (words_of a.objects.now) a.names.now (a.body.at + a.body.count) c.loop-p.p c.loop-p.spot ≡ [] =
    λ low. ends low (words_of a.objects.now) a.names.now (a.body.at + a.body.count) c.loop-p.p c.loop-p.spot c.loop-p-test.false in record { bound = (omega (arith, c.loop-p.invariant.2, c.loop-p.invariant.3), c.loop-p.invariant.3); closed = λ low h. rw z at (c.loop-p.invariant.4 low h c.loop-p.cells c.loop-p.n (appends-nothing c.loop-p.cells _ c.loop-p.n (e low) c.loop-p.invariant.2)) }
