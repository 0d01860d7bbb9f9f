-- `levels::first_use` meets its contract.
use Rattle.levels.proofs.Naming.{first-end, first-last, first-hit, first_next}
use Rattle.levels.proofs.first_use.Goals.{then-w-lt-FIRST_WORD-via-then-w-lt-FIRST_WORD, then-w-lt-FIRST_WORD-via-else-w-lt-FIRST_WORD+then-w-eq-END}
use Rattle.levels.proofs.first_use.Goals as goal

pub returns-then-w-lt-FIRST_WORD : goal.returns-then-w-lt-FIRST_WORD
returns-then-w-lt-FIRST_WORD c = c.loop-w.invariant.1 _ (elim c.then-w-lt-FIRST_WORD.branch [
  | then-w-lt-FIRST_WORD-via-then-w-lt-FIRST_WORD w ↦ first-end c.next_word-w.ensures w.if-w-lt-FIRST_WORD.true c.loop-w.invariant.0 c.not_found.ensures
  | then-w-lt-FIRST_WORD-via-else-w-lt-FIRST_WORD+then-w-eq-END w ↦ first-last c.next_word-w.ensures w.if-w-eq-END.true c.loop-w.invariant.0 c.not_found.ensures
])

pub returns-then-is_use_of : goal.returns-then-is_use_of
returns-then-is_use_of c = c.loop-w.invariant.1 _ (first-hit c.next_word-w.ensures c.is_use_of.ensures c.loop-w.invariant.0 c.if-is_use_of.true c.name_of.ensures)

pub loop-w-preserved : goal.loop-w-preserved
loop-w-preserved c = (c.next_word-w.ensures.high c.loop-w.invariant.0, λ r d. c.loop-w.invariant.1 r (first_next c.next_word-w.ensures c.is_use_of.ensures c.if-w-lt-FIRST_WORD.false c.if-w-eq-END.false c.if-is_use_of.false d))
