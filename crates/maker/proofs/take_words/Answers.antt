-- `maker::take_words` meets its contract.
use Prim.Native.Nat.{ℕ}
use Rattle.std.specs.Prelude.{Result, Err}
use Rattle.maker.specs.declared.Untaken.{Untaken}
use mathlib.Core.Path.{ap, ◌∙◌}
use Rattle.maker.proofs.Walking.{pairs-stop, pairs-last, pairs-over, pairs-unordered, pairs-step}
use Rattle.symbols.proofs.Indexing.{kept-behind}
use Rattle.maker.proofs.take_words.Goals.{then-w-lt-FIRST_WORD-via-then-w-lt-FIRST_WORD, then-w-lt-FIRST_WORD-via-else-w-lt-FIRST_WORD+then-w-eq-END}
use Rattle.maker.proofs.take_words.Goals as goal

pub returns-then-w-lt-FIRST_WORD : goal.returns-then-w-lt-FIRST_WORD
returns-then-w-lt-FIRST_WORD c = c.loop-w.invariant.5 _ _ (elim c.then-w-lt-FIRST_WORD.branch [
  | then-w-lt-FIRST_WORD-via-then-w-lt-FIRST_WORD w ↦ pairs-stop c.next_word-w.ensures w.if-w-lt-FIRST_WORD.true
  | then-w-lt-FIRST_WORD-via-else-w-lt-FIRST_WORD+then-w-eq-END w ↦ pairs-last c.next_word-w.ensures w.if-w-eq-END.true
])

pub returns-in-Err-NotInOrder : goal.returns-in-Err-NotInOrder
returns-in-Err-NotInOrder c = c.loop-w.invariant.5 _ _ (pairs-unordered c.next_word-w.ensures c.take_word.ensures (c.in-Err-NotInOrder.is ∙ ap {B = Result ℕ Untaken} Err c.in-Err-NotInOrder.field-0-is))

pub returns-in-Err-OverLimit : goal.returns-in-Err-OverLimit
returns-in-Err-OverLimit c = c.loop-w.invariant.5 _ _ (pairs-over c.loop-w.invariant.0 c.next_word-w.ensures c.take_word.ensures (c.in-Err-OverLimit.is ∙ ap {B = Result ℕ Untaken} Err c.in-Err-OverLimit.field-0-is))

pub loop-w-preserved : goal.loop-w-preserved
loop-w-preserved c =
    let b = rw c.in-Ok.is at c.take_word.ensures.bound in (
      c.next_word-w.ensures.high c.loop-w.invariant.0,
      c.take_word.ensures.bound.index.size ∙ c.loop-w.invariant.1,
      kept-behind c.take_word.ensures.bound.index c.loop-w.invariant.2,
      b.few,
      b.count,
      λ rows' r d. c.loop-w.invariant.5 rows' r (pairs-step c.loop-w.invariant.2.few c.next_word-w.ensures c.if-w-lt-FIRST_WORD.false c.if-w-eq-END.false c.take_word.ensures c.in-Ok.is d),
    )
