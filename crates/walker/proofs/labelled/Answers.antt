-- `labelled` meets its contract: at the head of the loop no label before `at` is the one sought.
use mathlib.Core.Path.{◌≡◌, sym, ap, ◌∙◌}
use Prim.Native.Nat.{ℕ, ◌+◌, ◌*◌, ◌/◌, ◌%◌, ◌<◌}
use native.Mathlib.Omega.{arith}
use Rattle.walker.specs.Shape.{swapped, find_from, otherwise_of}
use Rattle.walker.proofs.Laws.{swapped_same, sought-hit, sought-next, sought-none}
use Rattle.walker.proofs.LinkWords.{word_below}
use Rattle.walker.proofs.labelled.Goals as goal

-- the library's exchange of a word's bytes is ours
swaps : {x y : ℕ} → y ≡ x % 256 * 256 + x / 256 % 256 → x < 65536 → y ≡ swapped x
unfolding swapped
swaps e h = omega arith

pub overflow_mul-end : goal.overflow_mul-end
overflow_mul-end c = omega arith

pub overflow_add-end : goal.overflow_add-end
overflow_add-end c = omega arith

pub loop-at-init : goal.loop-at-init
loop-at-init c =
    let a = c.args in
    record { i = 0; place = omega arith; within = omega arith; same = ap (λ (k : ℕ). find_from a.t.now a.labels.first a.x k 0) (omega arith) }

pub swapped_word-requires : goal.swapped_word-requires
swapped_word-requires c = omega (arith, c.loop-at-test.true)

pub label-requires : goal.label-requires
label-requires c = omega arith

pub returns-then-swapped_word-y : goal.returns-then-swapped_word-y
returns-then-swapped_word-y c =
    let a = c.args in
    c.label.ensures ∙ sought-hit a.t.now a.labels.first a.labels.count a.x c.loop-at.at c.loop-at.invariant (omega (arith, c.loop-at-test.true))
    (swapped_same _ _ (word_below a.t.now (λ i. (c.shared_slice_known-1.given i).fits) c.loop-at.at) c.ranges.x.fits (sym c.swapped_word.ensures ∙ c.if-swapped_word-y.true ∙ swaps c.swap_bytes-y.ensures c.ranges.x.fits))

pub overflow_add-at : goal.overflow_add-at
overflow_add-at c = omega arith

pub loop-at-smaller : goal.loop-at-smaller
loop-at-smaller c = omega arith

pub loop-at-preserved : goal.loop-at-preserved
loop-at-preserved c =
    let a = c.args in
    sought-next a.t.now a.labels.first a.labels.count a.x c.loop-at.at c.loop-at.invariant (omega (arith, c.loop-at-test.true))
    (λ e. c.if-swapped_word-y.false (c.swapped_word.ensures ∙ ap swapped e ∙ sym (swaps c.swap_bytes-y.ensures c.ranges.x.fits)))

pub otherwise-requires : goal.otherwise-requires
otherwise-requires c = omega arith

pub returns : goal.returns
returns c =
    let a = c.args in
    c.otherwise.ensures ∙ ap (λ (k : ℕ). otherwise_of k (a.labels.first + 2 * a.labels.count)) c.requires.0
    ∙ sought-none a.t.now a.labels.first a.labels.count a.x c.loop-at.at c.loop-at.invariant (omega (arith, c.loop-at-test.false))
