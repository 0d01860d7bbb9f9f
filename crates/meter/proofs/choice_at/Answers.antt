-- `meter::choice_at` meets its contract.
use native.Mathlib.Omega.{arith}
use mathlib.Core.Path.{refl}
use Rattle.meter.proofs.Twos.{choice-cut, choice-other, choice-here}
use Rattle.meter.proofs.choice_at.Goals.{else-l-size_of-via-then-l-size_of+else-word_at-eq-CHOICE, else-l-size_of-via-else-l-size_of}
use Rattle.meter.proofs.choice_at.Goals as goal

pub word_at-requires : goal.word_at-requires
word_at-requires c = (c.requires.0, omega (arith, c.size_of.ensures, c.if-l-size_of.true))

pub returns-then-word_at-eq-CHOICE : goal.returns-then-word_at-eq-CHOICE
returns-then-word_at-eq-CHOICE c = choice-here _ _ c.word_at.ensures.0 c.if-word_at-eq-CHOICE.true c.word_at-then-word_at-eq-CHOICE.ensures.0 refl

pub returns-else-l-size_of : goal.returns-else-l-size_of
returns-else-l-size_of c =
    elim c.else-l-size_of.branch [
      | else-l-size_of-via-then-l-size_of+else-word_at-eq-CHOICE w ↦ choice-other _ _ w.word_at.ensures.0 w.if-word_at-eq-CHOICE.false
      | else-l-size_of-via-else-l-size_of w ↦ choice-cut _ _ (omega (arith, c.size_of.ensures, w.if-l-size_of.false))
    ]
