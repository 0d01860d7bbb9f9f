-- Worked examples: the checks over a row of rules.
use mathlib.Core.List.{List, [], ◌∷◌}
use mathlib.Core.Option.{Option, none, some}
use mathlib.Core.Path.{◌≡◌, refl}
use Prim.Native.Nat.{ℕ}
use Rattle.parts.specs.Link
use Rattle.objects.specs.View.{Name}
use Rattle.linkchecks.specs.Row
use Rattle.linkchecks.specs.Row.{Item, Shown, typed_first, past_row, unlike_rule, twice_rule}

reading : Unit {0}
unfolding Link.opened Row.opened
reading = tt

-- a name of one letter
name : ℕ → ℕ → Name
name start letter = record { start = start; text = letter ∷ [] }

item : ℕ → Name → Option Name → List Name → Item
item i n g calls = record { text = i; rule = record { name = n; gives = g; calls = calls; cells = [] } }

shows : ℕ → Name → Option Shown
shows i n = some (record { text = i; name = n })

-- M at 6 calls N at 10, in text 1; N at 6, in text 2
both : List Item
both = item 1 (name 6 77) none (name 10 78 ∷ []) ∷ item 2 (name 6 78) none [] ∷ []

-- 49: a called rule may stand in a later part
called-later : unlike_rule 3 both [] (item 1 (name 6 77) none (name 10 78 ∷ [])) ≡ none
unfolding reading name item both
called-later = refl

-- a call of O, which is in no part
called-nowhere : unlike_rule 3 both [] (item 1 (name 6 77) none (name 10 79 ∷ [])) ≡ shows 1 (name 10 79)
unfolding reading name item both shows
called-nowhere = refl

-- a choice rule that is not on the list: its own name before its calls
name-before-calls : unlike_rule 3 both [] (item 1 (name 6 77) (some (name 8 84)) (name 10 79 ∷ [])) ≡ shows 1 (name 6 77)
unfolding reading name item both shows
name-before-calls = refl

-- 50: another part before has the name
in-two-parts : twice_rule both (item 2 (name 20 77) none []) ≡ shows 2 (name 20 77)
unfolding reading name item both shows
in-two-parts = refl

-- the same part has it, or a later one
in-one-part : twice_rule both (item 1 (name 20 77) none []) ≡ none
unfolding reading name item both
in-one-part = refl

-- 9: the second rule where one may be
past_one : past_row 1 both ≡ shows 2 (name 6 78)
unfolding reading name item both shows
past_one = refl

past_two : past_row 2 both ≡ none
unfolding reading name item both
past_two = refl

-- 5
first-has-a-type : typed_first (item 1 (name 6 77) (some (name 8 84)) [] ∷ both) ≡ shows 1 (name 6 77)
unfolding reading name item both shows
first-has-a-type = refl

second-has-a-type : typed_first (item 1 (name 6 77) none [] ∷ item 1 (name 9 78) (some (name 11 84)) [] ∷ []) ≡ none
unfolding reading name item
second-has-a-type = refl
