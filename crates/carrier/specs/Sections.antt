-- "Sections must be equal word for word": what `same_sections` promises of texts that have a word `rules`.
use Rattle.std.specs.Prelude.{Bool, List, [], ◌∷◌, ◌⊎◌, ◌≡◌, ℕ}
use Rattle.carry.specs.Carry.{same_all, section_words}
use Rattle.words.specs.Words.{Word, words, rules}

-- the word `rules` is among them
unfoldable pub HasRules : List Word → Type 0
HasRules [] = ⊥
HasRules (w ∷ ws) = (w.kind ≡ rules) ⊎ HasRules ws

pub record Sections (old new : List ℕ) (r : Bool) : Type 0 where
  pub same_as : HasRules (words old) → HasRules (words new) → r ≡ same_all (section_words (words old)) (section_words (words new))
