-- `counting::put_figures` meets its contract: after i turns the first i numbers stand there.
use mathlib.Core.Path.{◌≡◌, refl, ap, ◌∙◌}
use Prim.Native.Nat.{ℕ, ◌*◌}
use native.Mathlib.Omega.{arith}
use lib.ListN.{length, take}
use Rattle.counting.proofs.Form.{length-numbers_of, written_next, written_all}
use Rattle.counting.specs.Counting.{numbers_of}
use Rattle.machine.specs.Bytes.{bytes_of, over}
use Rattle.figures.specs.Form.{number_words}
use Rattle.counting.proofs.put_figures.Goals as goal

pub loop-i-init : goal.loop-i-init
unfolding over bytes_of
loop-i-init c = (omega arith, (refl, refl))

pub figure-requires : goal.figure-requires
figure-requires c = (c.requires.1, c.loop-i-test.true)

pub put_number-requires : goal.put_number-requires
put_number-requires c = omega (arith, c.loop-i.invariant.1.0, c.requires.0, c.loop-i-test.true)

pub loop-i-preserved : goal.loop-i-preserved
loop-i-preserved c =
    let a = c.args in
    let ns = numbers_of a.counts.now a.books a.total in
    let n = length-numbers_of a.counts.now a.books a.total c.requires.1 in
    let t = c.loop-i-test.true in (
      omega (arith, t),
      (
        c.put_number.auto.out ∙ c.loop-i.invariant.1.0,
        written_next ns a.out.now (omega (arith, n, c.requires.0)) c.loop-i.out c.put_number.new.out c.loop-i.i _ c.put_number.ensures c.loop-i.invariant.1.1 (omega (arith, t, n)) c.figure.ensures,
      ),
    )

pub shape_of-out : goal.shape_of-out
shape_of-out c = c.loop-i.invariant.1.0

pub returns : goal.returns
returns c =
    let s = c.before.before.before in
    let a = s.args in
    let ns = numbers_of a.counts.now a.books a.total in
    let n = length-numbers_of a.counts.now a.books a.total s.requires.1 in
    let e : 4 * c.loop-i.i ≡ 4 * length ns = omega (arith, c.loop-i.invariant.0, c.loop-i-test.false, n) in
    c.loop-i.invariant.1.1 ∙ ap (λ (k : ℕ). over (bytes_of (take k (number_words ns))) a.out.now) e ∙ written_all ns a.out.now (omega (arith, n, s.requires.0)) (omega (arith, n, s.requires.0))
