-- Worked examples: words appended, and the front of an object.
use mathlib.Core.List.{[], ◌∷◌}
use mathlib.Core.Path.{◌≡◌, refl}
use Rattle.parts.specs.Form as form
use Rattle.parts.specs.Moved as moved
use Rattle.partwriter.specs.Put as put
use Rattle.partwriter.specs.Put.{name_here, front}

-- the name `b`, which stands at 7 in the text at hand and at 2 in its part
fact-name : name_here (0 ∷ 0 ∷ 0 ∷ 0 ∷ 0 ∷ 0 ∷ 0 ∷ 98 ∷ 0 ∷ []) 7 1 5 ≡ 2 ∷ 1 ∷ 98 ∷ []
unfolding put.opened form.opened moved.opened
fact-name = refl

-- `PO`, no number of words yet, three bytes of the common part, eight of the part, one rule, two pairs
fact-front : front (1 ∷ 2 ∷ 3 ∷ []) (record { part = 8; rules = 1; pairs = 2 }) ≡ 20559 ∷ 0 ∷ 0 ∷ 3 ∷ 8 ∷ 1 ∷ 2 ∷ 258 ∷ 768 ∷ []
unfolding put.opened form.opened
fact-front = refl
