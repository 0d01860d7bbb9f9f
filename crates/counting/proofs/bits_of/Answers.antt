-- `counting::bits_of` meets its contract: the bits of the counts from i on.
use mathlib.Core.Path.{◌≡◌, ap, ◌∙◌}
use Prim.Native.Nat.{ℕ, ◌*◌}
use lib.ListN.{take, drop}
use Rattle.figures.specs.Figures.{packed}
use native.Mathlib.Omega.{arith}
use Rattle.counting.proofs.Form.{packs-start, packs-room, packs-again}
use Rattle.counting.proofs.bits_of.Goals as goal

pub loop-i-init : goal.loop-i-init
loop-i-init c =
    packs-start c.args.counts.now c.args.j c.requires.0 c.requires.1

pub overflow_mul-w : goal.overflow_mul-w
overflow_mul-w c =
    let s = c.before.before in
    record { fits = omega (arith, packs-room s.args.counts.now s.args.j c.loop-i.w c.loop-i.i s.requires.0 s.requires.1 c.loop-i.invariant c.loop-i-test.true) }

pub overflow_add-w : goal.overflow_add-w
overflow_add-w c =
    let s = c.before.before in
    record { fits = omega (arith, c.flag.ensures.1, packs-room s.args.counts.now s.args.j c.loop-i.w c.loop-i.i s.requires.0 s.requires.1 c.loop-i.invariant c.loop-i-test.true) }

pub loop-i-preserved : goal.loop-i-preserved
loop-i-preserved c =
    let s = c.before.before in
    packs-again s.args.counts.now s.args.j c.loop-i.w c.loop-i.i s.requires.0 s.requires.1 c.loop-i.invariant c.loop-i-test.true c.flag.result c.flag.ensures.0

pub returns : goal.returns
returns c =
    let a = c.args in
    let e : c.loop-i.i ≡ 0 = omega (arith, c.loop-i-test.false) in
    c.loop-i.invariant.is ∙ ap (λ (k : ℕ). packed (drop k (take 64 (drop (a.j * 64) a.counts.now)))) e
