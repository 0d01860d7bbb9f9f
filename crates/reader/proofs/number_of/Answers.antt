-- `reader::number_of` meets its contract.
use mathlib.Core.Path.{◌≡◌, sym, ◌∙◌}
use Prim.Native.Nat.{◌+◌, ◌*◌}
use native.Mathlib.Omega.{arith}
use lib.ListN.{drop}
use Rattle.reader.proofs.SectionLaws.{value-go, value-end, value_low}
use Rattle.words.specs.Words.{value}
use Rattle.reader.proofs.number_of.Goals as goal

pub returns-then-n-gt-GREATEST_VALUE : goal.returns-then-n-gt-GREATEST_VALUE
returns-then-n-gt-GREATEST_VALUE c =
    let ds = c.part-b-items.result.now in
    let i = c.loop-b.b-index in
    let go : value (c.loop-b.n * 10 + c.digit_of.result) (drop (i + 1) ds) ≡ value c.loop-b.n (drop i ds) = rw c.digit_of.ensures.0 (sym (value-go c.loop-b.n ds i c.loop-b-test.true)) in
    record { exact = λ e. absurd (omega arith); past = λ e. omega (arith, value_low (c.loop-b.n * 10 + c.digit_of.result) (drop (i + 1) ds), go, c.loop-b.invariant.1) }

pub loop-b-preserved : goal.loop-b-preserved
loop-b-preserved c =
    let ds = c.part-b-items.result.now in
    (omega arith, rw c.digit_of.ensures.0 (sym (value-go c.loop-b.n ds c.loop-b.b-index c.loop-b-test.true)) ∙ c.loop-b.invariant.1)

pub returns : goal.returns
returns c = record { exact = λ e. sym c.loop-b.invariant.1 ∙ value-end c.loop-b.n c.part-b-items.result.now c.loop-b.b-index c.loop-b-test.false; past = λ e. absurd (omega arith) }
