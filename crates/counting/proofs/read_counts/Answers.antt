-- `counting::read_counts` meets its contract: after i turns the first i counts stand there.
use mathlib.Core.Path.{◌≡◌, refl, sym, ◌∙◌}
use Prim.Native.Nat.{◌+◌}
use native.Mathlib.Numerals.{add-one}
use native.Mathlib.Omega.{arith}
use lib.ListN.{take, length-set, set}
use lib.Seq.{take-suc-set, take-suc, take_all}
use Rattle.figures.proofs.Form.{length-numbers_at, get_d-numbers_at}
use Rattle.figures.specs.Form.{numbers_at}
use Rattle.machine.specs.Bytes.{words_of}
use borrow.Author.Rules.{rules}
use Rattle.counting.proofs.read_counts.Goals as goal

pub loop-i-init : goal.loop-i-init
loop-i-init c = (search rules, (search rules, refl))

pub number_at-requires : goal.number_at-requires
number_at-requires c = omega arith

pub loop-i-preserved : goal.loop-i-preserved
loop-i-preserved c =
    let s = c.args.s.now in
    let ns = numbers_at (words_of s) 0 4096 in
    let i = c.loop-i.i in
    let x = c.number_at.result in
    let n = length-numbers_at (words_of s) 0 4096 in
    let e : 0 + i ≡ i = omega arith in
    let grows : take (i + 1) (set c.loop-i.counts i x) ≡ take (i + 1) ns =
    rw (add-one, take-suc-set c.loop-i.counts i x (omega arith), take-suc ns i 0 (omega arith), c.loop-i.invariant.1.1, c.number_at.ensures, get_d-numbers_at (words_of s) 0 4096 i (omega arith), e) refl in
    (search rules, (length-set c.loop-i.counts i x ∙ c.loop-i.invariant.1.0, grows))

pub returns : goal.returns
returns c =
    let ns = numbers_at (words_of c.args.s.now) 0 4096 in
    let e : c.loop-i.i ≡ 4096 = omega arith in
    let q : take 4096 c.loop-i.counts ≡ take 4096 ns = rw e at c.loop-i.invariant.1.1 in
    sym (take_all 4096 c.loop-i.counts (omega arith)) ∙ q ∙ take_all 4096 ns (omega (arith, length-numbers_at (words_of c.args.s.now) 0 4096))
