-- Worked examples: marked cells closed, and places of names.
use mathlib.Core.List.{[], ◌∷◌}
use mathlib.Core.Path.{◌≡◌, refl}
use Rattle.linker.specs.Close as close
use Rattle.linker.specs.Close.{in_row, close_cells}
use Rattle.linker.specs.Place as place
use Rattle.linker.specs.Place.{text_at, place_of}

-- `@a ^b s`, the pair of b and s being the second: the call of a is rule 7, that of the pair rule 21, and the place of b, 3, is not used; then `@c`, rule 9
fact-calls : close_cells (in_row (20 ∷ 21 ∷ [])) (7 ∷ 3 ∷ 9 ∷ []) (8 ∷ 0 ∷ 8 ∷ 2 ∷ 8 ∷ 0 ∷ 0 ∷ []) ≡ 8 ∷ 7 ∷ 8 ∷ 21 ∷ 8 ∷ 9 ∷ 0 ∷ []
unfolding close.opened
fact-calls = refl

-- what only looks like a call: a token 8, the labels 8 and 11, the parameters 8 of operations
fact-copied : close_cells (in_row []) (7 ∷ []) (3 ∷ 8 ∷ 512 ∷ 8 ∷ 1024 ∷ 8 ∷ 66 ∷ 8 ∷ 11 ∷ 5 ∷ 8 ∷ 0 ∷ 12 ∷ 8 ∷ 0 ∷ 0 ∷ []) ≡ 3 ∷ 8 ∷ 512 ∷ 8 ∷ 1024 ∷ 8 ∷ 66 ∷ 8 ∷ 11 ∷ 5 ∷ 8 ∷ 0 ∷ 12 ∷ 8 ∷ 7 ∷ 0 ∷ []
unfolding close.opened
fact-copied = refl

-- a choice by the rule 4, with one label
fact-choice : close_cells (in_row []) (4 ∷ 6 ∷ []) (11 ∷ 0 ∷ 65 ∷ 1 ∷ 8 ∷ 0 ∷ 0 ∷ 12 ∷ 0 ∷ []) ≡ 11 ∷ 4 ∷ 65 ∷ 1 ∷ 8 ∷ 6 ∷ 0 ∷ 12 ∷ 0 ∷ []
unfolding close.opened
fact-choice = refl

-- the name `ab`, which stands at 5 in its text
fact-text : text_at (9 ∷ 5 ∷ 2 ∷ 97 ∷ 98 ∷ 99 ∷ []) 1 ≡ 97 ∷ 98 ∷ []
unfolding place.opened
fact-text = refl

-- the first of two rules with the name
fact-place : place_of (97 ∷ 98 ∷ []) ((97 ∷ []) ∷ (97 ∷ 98 ∷ []) ∷ (97 ∷ 98 ∷ []) ∷ []) ≡ 1
unfolding place.opened
fact-place = refl

fact-no-place : place_of (98 ∷ []) ((97 ∷ []) ∷ (97 ∷ 98 ∷ []) ∷ []) ≡ 2
unfolding place.opened
fact-no-place = refl
