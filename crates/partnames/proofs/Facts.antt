-- Worked examples: the names of a part by the word before each, and both texts in one.
use mathlib.Core.Bool.{true}
use mathlib.Core.List.{List, [], ◌∷◌}
use mathlib.Core.Path.{◌≡◌, refl}
use Prim.Native.Nat.{ℕ}
use Rattle.base.specs.Common.{bytes}
use Rattle.partnames.specs.Buffer as buffer
use Rattle.partnames.specs.Buffer.{both_texts}
use Rattle.partnames.specs.Mentioning as mentioning
use Rattle.partnames.specs.Mentioning.{names_from}
use Rattle.words.specs.Words as words
use Rattle.words.specs.Words.{Word}

texts : List Word → List (List ℕ)
texts [] = []
texts (w ∷ ws) = w.text ∷ texts ws

-- own names behind semicolons, others behind `@`, also in a choice and behind `^`; an operation, a token and a type are none
fact-names : texts (names_from true (words.words (bytes "A: a @B f(v) .x; C >> t: [@D | v: ^s @B | *: ]; end")))
    ≡ bytes "A" ∷ bytes "B" ∷ bytes "C" ∷ bytes "D" ∷ bytes "B" ∷ []
unfolding mentioning.opened words.opened texts
fact-names = refl

-- the common part before its `end`, which begins at place 6, and the part behind its `rules`
fact-both : both_texts (bytes "rules end") 6 (bytes "rules M: ; end") 5 ≡ bytes "rules \n M: ; end"
unfolding buffer.opened
fact-both = refl
