-- What writing an object's words into lent bytes leaves there: words are appended as cells are in crate resolver, and an odd last byte is not touched.
use Rattle.std.specs.Prelude.{List, ◌∷◌, ◌≡◌, ℕ, suc, ◌+◌, ◌*◌, ◌-◌, min, length, drop}
use Rattle.std.proofs.lemmas.List.Edits.{sets}
use Rattle.machine.specs.Bytes.{count, words_of}
use Rattle.parts.specs.Form.{packed, name_words}
use Rattle.parts.specs.Moved.{move_word}
use Rattle.symbols.specs.Rows.{word_of}
use Rattle.partwriter.specs.declared.Sizes.{Sizes}

-- the bytes have these words now, and nothing else is changed
pub record Leaves (bytes ws bytes' : List ℕ) : Type 0 where
  pub words : words_of bytes' ≡ ws
  pub size : length bytes' ≡ length bytes
  pub odd : drop (2 * count bytes) bytes' ≡ drop (2 * count bytes) bytes

-- the words xs appended to the first c; past the end nothing is written and the count stays one above the room
pub record Puts (bytes : List ℕ) (c : ℕ) (xs bytes' : List ℕ) (c' : ℕ) : Type 0 where
  pub leaves : Leaves bytes (sets (words_of bytes) c xs) bytes'
  pub total : c' ≡ min (suc (count bytes)) (c + length xs)

-- so many places back: a word of the part stands `moved` further on in the text at hand than in the part
abbrev pub back : ℕ → ℕ → ℕ
back moved start = start - moved

-- the words of the name that stands here
unfoldable pub name_here : List ℕ → ℕ → ℕ → ℕ → List ℕ
name_here text start len moved = name_words (move_word (back moved) (word_of text 257 start len))

-- the words in front of an object's pairs and rules, the number of words behind the first three not yet known
unfoldable pub front : List ℕ → Sizes → List ℕ
front common s = 20559 ∷ 0 ∷ 0 ∷ length common ∷ s.part ∷ s.rules ∷ s.pairs ∷ packed common

-- all of this file computes where this is unfolded
unfoldable pub opened : Unit {0}
unfolding name_here front
opened = tt
