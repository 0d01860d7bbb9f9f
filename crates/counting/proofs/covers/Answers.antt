-- `counting::covers` meets its contract: the words up to j are the same.
use mathlib.Core.Path.{refl, sym, ◌∙◌}
use native.Mathlib.Omega.{arith}
use Rattle.base.proofs.Laws.{same_next, same_not, same_end}
use Rattle.figures.proofs.Bits.{get_d_bits}
use Rattle.figures.proofs.Form.{length-numbers_at, get_d-numbers_at, length-bits}
use Rattle.figures.specs.Figures.{bits_of}
use Rattle.figures.specs.Form.{numbers_at}
use Rattle.machine.specs.Bytes.{words_of}
use borrow.Author.Rules.{rules}
use Rattle.counting.proofs.covers.Goals as goal

pub loop-j-init : goal.loop-j-init
loop-j-init c = (search rules, refl)

pub number_at-requires : goal.number_at-requires
number_at-requires c = omega arith

pub bits_of-requires : goal.bits_of-requires
bits_of-requires c = (c.requires.1, c.loop-j-test.true)

pub returns-then-number_at-bits_of : goal.returns-then-number_at-bits_of
returns-then-number_at-bits_of c =
    let s = c.before.before.before in
    let ws = words_of s.args.s.now in
    let cs = s.args.counts.now in
    let j = c.loop-j.j in
    let t = c.loop-j-test.true in
    sym (c.loop-j.invariant.1 ∙ same_not (numbers_at ws 4096 64) (bits_of 64 cs) j (omega (arith, t, length-numbers_at ws 4096 64)) (omega (arith, t, length-bits 64 cs))
    (λ e. c.if-number_at-bits_of.true (c.number_at.ensures ∙ sym (get_d-numbers_at ws 4096 64 j t) ∙ e ∙ get_d_bits 64 cs j t ∙ sym c.bits_of.ensures)))

pub loop-j-preserved : goal.loop-j-preserved
loop-j-preserved c =
    let s = c.before.before.before in
    let ws = words_of s.args.s.now in
    let cs = s.args.counts.now in
    let j = c.loop-j.j in
    let t = c.loop-j-test.true in (
      omega (arith, t),
      c.loop-j.invariant.1 ∙ same_next (numbers_at ws 4096 64) (bits_of 64 cs) j (omega (arith, t, length-numbers_at ws 4096 64)) (omega (arith, t, length-bits 64 cs))
          (get_d-numbers_at ws 4096 64 j t ∙ sym c.number_at.ensures ∙ c.if-number_at-bits_of.false ∙ c.bits_of.ensures ∙ sym (get_d_bits 64 cs j t)),
    )

pub returns : goal.returns
returns c =
    let s = c.before.before.before in
    let ws = words_of s.args.s.now in
    let cs = s.args.counts.now in
    sym (c.loop-j.invariant.1 ∙ same_end (numbers_at ws 4096 64) (bits_of 64 cs) c.loop-j.j (omega (arith, c.loop-j-test.false, length-numbers_at ws 4096 64)) (omega (arith, c.loop-j-test.false, length-bits 64 cs)))
