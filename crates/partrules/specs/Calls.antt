-- The calls of a rule, told from its words alone: the words after `@`, up to the rule's `;`.
use Rattle.std.specs.Prelude.{Bool, ◌||◌, List, [], ◌∷◌, ◌++◌, ℕ, eqb, ltb, if◌then◌else◌}
use Rattle.parts.specs.Form.{names_words}
use Rattle.parts.specs.Moved.{move_words}
use Rattle.partwriter.specs.Put.{back}
use Rattle.words.specs.Words.{Word}

-- the first of these words, where there is one
unfoldable pub first_of : List Word → List Word
first_of [] = []
first_of (w ∷ ws) = w ∷ []

-- the call that a word of this kind makes, those behind it being ws: 64 is `@`
unfoldable pub call_by : ℕ → List Word → List Word
call_by kind ws = if eqb kind 64 then first_of ws else []

-- 59 is `;`
unfoldable pub calls_from : List Word → List Word
calls_from [] = []
calls_from (w ∷ ws) = let more = call_by w.kind ws ++ calls_from ws in if eqb w.kind 59 then [] else more

-- the word is `;`, or there is none
abbrev pub is_last : ℕ → Bool
is_last kind = eqb kind 59 || ltb kind 2

-- a word's calls, counted
unfoldable pub signs : ℕ → ℕ
signs kind = if eqb kind 64 then 1 else 0

-- the words of these names of the text at hand, as the object has them
unfoldable pub called : ℕ → List Word → List ℕ
called moved ws = names_words (move_words (back moved) ws)

-- all of this file computes where this is unfolded
unfoldable pub opened : Unit {0}
unfolding first_of call_by calls_from signs called
opened = tt
