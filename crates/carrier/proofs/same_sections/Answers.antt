-- `carrier::same_sections` meets its contract.
use mathlib.Core.Path.{refl}
use native.Mathlib.Omega.{arith}
use Rattle.carrier.proofs.Laws.{slices-same, unlike, alike}
use Rattle.carrier.proofs.Stepping.{steps_first, both_end, new-ends, old-lacks, new-lacks, words-differ, steps_next}
use Rattle.carrier.proofs.same_sections.Goals as goal
use Rattle.carrier.proofs.same_sections.Goals.{then-v-eq-RULES-via-then-v-eq-RULES, then-v-eq-RULES-via-else-v-eq-RULES+then-w-lt-FIRST_WORD, then-v-eq-RULES-via-else-v-eq-RULES+else-w-lt-FIRST_WORD+then-v-lt-FIRST_WORD}

pub loop-w-init : goal.loop-w-init
loop-w-init c = steps_first

pub returns-then-w-eq-RULES : goal.returns-then-w-eq-RULES
returns-then-w-eq-RULES c = both_end c.loop-w.invariant c.next_word-w.ensures c.next_word-v.ensures c.if-w-eq-RULES.true

pub returns-then-v-eq-RULES : goal.returns-then-v-eq-RULES
returns-then-v-eq-RULES c =
    elim c.then-v-eq-RULES.branch [
      | then-v-eq-RULES-via-then-v-eq-RULES w ↦ new-ends c.loop-w.invariant c.next_word-w.ensures c.next_word-v.ensures c.if-w-eq-RULES.false w.if-v-eq-RULES.true
      | then-v-eq-RULES-via-else-v-eq-RULES+then-w-lt-FIRST_WORD w ↦ old-lacks c.loop-w.invariant c.next_word-w.ensures c.next_word-v.ensures c.if-w-eq-RULES.false w.if-w-lt-FIRST_WORD.true
      | then-v-eq-RULES-via-else-v-eq-RULES+else-w-lt-FIRST_WORD+then-v-lt-FIRST_WORD w ↦ new-lacks c.loop-w.invariant c.next_word-w.ensures c.next_word-v.ensures w.if-v-eq-RULES.false w.if-v-lt-FIRST_WORD.true
    ]

pub returns-then-ne : goal.returns-then-ne
returns-then-ne c = words-differ c.loop-w.invariant c.next_word-w.ensures c.next_word-v.ensures c.if-w-eq-RULES.false c.if-v-eq-RULES.false (omega (arith, c.if-w-lt-FIRST_WORD.false)) (omega (arith, c.if-v-lt-FIRST_WORD.false)) _ (slices-same refl c.part.ensures c.part-in-loop-w.ensures) (unlike c.part.result.now c.part-in-loop-w.result.now c.ne.ensures c.if-ne.true)

pub loop-w-smaller : goal.loop-w-smaller
loop-w-smaller c = omega (arith, c.next_word-w.ensures.moves (omega (arith, c.if-w-lt-FIRST_WORD.false)), c.next_word-w.ensures.high c.loop-w.invariant.low)

pub loop-w-preserved : goal.loop-w-preserved
loop-w-preserved c = steps_next c.loop-w.invariant c.next_word-w.ensures c.next_word-v.ensures c.if-w-eq-RULES.false c.if-v-eq-RULES.false (omega (arith, c.if-w-lt-FIRST_WORD.false)) (omega (arith, c.if-v-lt-FIRST_WORD.false)) _ (slices-same refl c.part.ensures c.part-in-loop-w.ensures) (alike c.part.result.now c.part-in-loop-w.result.now c.ne.ensures c.if-ne.false)
