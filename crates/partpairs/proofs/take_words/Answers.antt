-- `partpairs::take_words` meets its contract.
use native.Mathlib.Omega.{arith}
use mathlib.Core.Path.{sym, ◌∙◌}
use Rattle.partpairs.proofs.Walking.{pairs-stop, pairs-last, pairs-full, pairs-step}
use Rattle.symbols.proofs.Indexing.{kept-behind}
use Rattle.partpairs.proofs.take_words.Goals as goal
use Rattle.partpairs.proofs.take_words.Goals.{then-w-lt-FIRST_WORD-via-then-w-lt-FIRST_WORD, then-w-lt-FIRST_WORD-via-else-w-lt-FIRST_WORD+then-w-eq-END}

pub loop-w-init : goal.loop-w-init
loop-w-init c = (c.requires.0, c.requires.2, c.requires.3, c.requires.4, c.requires.6, λ rows' signs' d. d)

pub next_word-w-requires : goal.next_word-w-requires
next_word-w-requires c = tt

pub shape_of-rows-then-w-lt-FIRST_WORD : goal.shape_of-rows-then-w-lt-FIRST_WORD
shape_of-rows-then-w-lt-FIRST_WORD c = c.loop-w.invariant.1 ∙ sym c.requires.2

pub shape_of-signs-then-w-lt-FIRST_WORD : goal.shape_of-signs-then-w-lt-FIRST_WORD
shape_of-signs-then-w-lt-FIRST_WORD c = c.loop-w.invariant.2 ∙ sym c.requires.3

pub returns-then-w-lt-FIRST_WORD : goal.returns-then-w-lt-FIRST_WORD
returns-then-w-lt-FIRST_WORD c =
    elim c.then-w-lt-FIRST_WORD.branch [
      | then-w-lt-FIRST_WORD-via-then-w-lt-FIRST_WORD w ↦ c.loop-w.invariant.5 _ _ (pairs-stop c.loop-w.invariant.4 c.next_word-w.ensures w.if-w-lt-FIRST_WORD.true)
      | then-w-lt-FIRST_WORD-via-else-w-lt-FIRST_WORD+then-w-eq-END w ↦ c.loop-w.invariant.5 _ _ (pairs-last c.loop-w.invariant.4 c.next_word-w.ensures w.if-w-eq-END.true)
    ]

pub take_word-requires : goal.take_word-requires
take_word-requires c = (omega (arith, c.loop-w.invariant.0, c.requires.1), c.loop-w.invariant.1, c.loop-w.invariant.2, c.loop-w.invariant.3, c.requires.5, c.loop-w.invariant.4)

pub shape_of-rows-then-not-take_word : goal.shape_of-rows-then-not-take_word
shape_of-rows-then-not-take_word c = c.take_word.ensures.goes.index.size ∙ (c.loop-w.invariant.1 ∙ sym c.requires.2)

pub shape_of-signs-then-not-take_word : goal.shape_of-signs-then-not-take_word
shape_of-signs-then-not-take_word c = c.take_word.ensures.goes.size ∙ (c.loop-w.invariant.2 ∙ sym c.requires.3)

pub returns-then-not-take_word : goal.returns-then-not-take_word
returns-then-not-take_word c = c.loop-w.invariant.5 _ _ (pairs-full c.next_word-w.ensures c.take_word.ensures c.if-not-take_word.true)

pub loop-w-smaller : goal.loop-w-smaller
loop-w-smaller c = omega (arith, c.next_word-w.ensures.moves c.if-w-lt-FIRST_WORD.false, c.next_word-w.ensures.high c.loop-w.invariant.0)

pub loop-w-preserved : goal.loop-w-preserved
loop-w-preserved c = (c.next_word-w.ensures.high c.loop-w.invariant.0, c.take_word.ensures.goes.index.size ∙ c.loop-w.invariant.1, c.take_word.ensures.goes.size ∙ c.loop-w.invariant.2, kept-behind c.take_word.ensures.goes.index c.loop-w.invariant.3, c.take_word.ensures.goes.few, λ rows' signs' d. c.loop-w.invariant.5 rows' signs' (pairs-step c.loop-w.invariant.3.few c.loop-w.invariant.0 c.next_word-w.ensures c.if-w-lt-FIRST_WORD.false c.if-w-eq-END.false c.take_word.ensures c.if-not-take_word.false d))
