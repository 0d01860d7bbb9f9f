-- Worked examples: marks in place of numbers, calls told from words, and rows marked.
use mathlib.Core.Bool.{true, false}
use mathlib.Core.List.{[], ◌∷◌}
use mathlib.Core.Option.{some}
use mathlib.Core.Path.{◌≡◌, refl}
use Rattle.base.specs.Common.{bytes}
use Rattle.linker.specs.Close as close
use Rattle.parts.specs.Form as form
use Rattle.parts.specs.Moved as moved
use Rattle.words.specs.Words as words
use Rattle.words.specs.Words.{words_at}
use Rattle.partrules.specs.Calls as calls
use Rattle.partrules.specs.Calls.{calls_from, called}
use Rattle.partrules.specs.Marks as marks
use Rattle.partrules.specs.Marks.{mark_by, turn_cells}
use Rattle.partrules.specs.Opened as opened
use Rattle.partrules.specs.Opened.{marked, marking}

-- three names: the call of rule 2 is by its name, those of rules 3 and 4 are the first pair and the second
fact-marks : turn_cells (mark_by 3) (8 ∷ 2 ∷ 8 ∷ 3 ∷ 11 ∷ 1 ∷ 65 ∷ 8 ∷ 8 ∷ 4 ∷ 0 ∷ 12 ∷ 0 ∷ []) ≡ 8 ∷ 0 ∷ 8 ∷ 1 ∷ 11 ∷ 0 ∷ 65 ∷ 8 ∷ 8 ∷ 2 ∷ 0 ∷ 12 ∷ 0 ∷ []
unfolding marks.opened close.opened
fact-marks = refl

-- what only looks like a call: a token 8, and the parameter 8 of an operation
fact-copied : turn_cells (mark_by 3) (3 ∷ 8 ∷ 512 ∷ 8 ∷ 0 ∷ []) ≡ 3 ∷ 8 ∷ 512 ∷ 8 ∷ 0 ∷ []
unfolding marks.opened close.opened
fact-copied = refl

-- `a` and `c` are called, the second under a `^`; what stands behind the `;` is another rule's. The part begins at 2 of the text at hand
fact-calls : called 2 (calls_from (words_at (bytes "  @a ^b@c; @d") 2)) ≡ 1 ∷ 1 ∷ 97 ∷ 6 ∷ 1 ∷ 99 ∷ []
unfolding calls.opened words.opened form.opened moved.opened
fact-calls = refl

fact-marked : marked (marking (0 ∷ 0 ∷ []) (some 1)) (some 1) ≡ true
unfolding opened.opened
fact-marked = refl

fact-unmarked : marked (marking (0 ∷ 0 ∷ []) (some 1)) (some 0) ≡ false
unfolding opened.opened
fact-unmarked = refl
