-- `counting::covered` meets its contract: the ones of the first j words.
use mathlib.Core.Path.{◌≡◌, refl, sym, ap, ◌∙◌}
use Prim.Native.Nat.{ℕ}
use native.Mathlib.Omega.{arith}
use lib.Count.{ones, ones-le}
use lib.ListN.{take, get_or}
use lib.Seq.{take_all}
use Rattle.counting.proofs.Form.{covered_next}
use Rattle.figures.proofs.Form.{length-numbers_at, get_d-numbers_at}
use Rattle.figures.specs.Figures as figures
use Rattle.figures.specs.Form.{numbers_at}
use Rattle.machine.specs.Bytes.{words_of}
use Rattle.counting.proofs.covered.Goals as goal

pub loop-j-init : goal.loop-j-init
unfolding figures.covered
loop-j-init c = (omega arith, (omega arith, refl))

pub number_at-requires : goal.number_at-requires
number_at-requires c = omega arith

pub overflow_add-n : goal.overflow_add-n
overflow_add-n c = record { fits = omega (arith, c.from-n.ensures, ones-le 64 c.number_at.result c.number_at.type_inv, c.loop-j.invariant.1.0, c.loop-j-test.true) }

pub loop-j-preserved : goal.loop-j-preserved
loop-j-preserved c =
    let ws = words_of c.args.s.now in
    let j = c.loop-j.j in
    let t = c.loop-j-test.true in
    let w : ones (get_or (numbers_at ws 4096 64) j 0) ≡ ones c.number_at.result = ap ones (get_d-numbers_at ws 4096 64 j t ∙ sym c.number_at.ensures) in
    let n = covered_next (numbers_at ws 4096 64) j (omega (arith, t, length-numbers_at ws 4096 64)) in
    (omega (arith, t), (omega (arith, c.from-n.ensures, ones-le 64 c.number_at.result c.number_at.type_inv, c.loop-j.invariant.1.0), omega (arith, c.from-n.ensures, n, w, c.loop-j.invariant.1.1)))

pub returns : goal.returns
returns c =
    let ws = numbers_at (words_of c.args.s.now) 4096 64 in
    let e : c.loop-j.j ≡ 64 = omega arith in
    c.loop-j.invariant.1.1 ∙ ap (λ (k : ℕ). figures.covered (take k ws)) e ∙ ap figures.covered (take_all 64 ws (omega (arith, length-numbers_at (words_of c.args.s.now) 4096 64)))
