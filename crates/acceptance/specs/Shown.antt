-- "The word at fault is handed back as a part of the author's text": which part a refusal shows.
use mathlib.Core.List.{List, [], Memᴰ}
use Rattle.std.specs.Prelude.{◌⊎◌, ◌≡◌, ℕ, ◌+◌, ◌<◌, ◌≤◌, length, take, drop}
use Rattle.processor.specs.Process.{Part, part_of}
use Rattle.syntax.specs.Parse.{end_of}
use Rattle.words.specs.Words.{Word, words, bad, last}

-- one of the text's words: it begins and ends inside the text, and the bytes that stand there are its own
pub record WordOf (text : List ℕ) (w : Word) : Type 0 where
  pub one : Memᴰ w (words text)
  pub inside : w.start + length w.text ≤ length text
  pub spelt : take (length w.text) (drop w.start text) ≡ w.text

-- the same, neither "byte or quote that makes no word" nor the end of the text: it has a byte or more
pub record Shown (text : List ℕ) (w : Word) : Type 0 where
  pub word : WordOf text w
  pub not_bad : w.kind ≡ bad → ⊥
  pub not_end : w.kind ≡ last → ⊥
  pub some : 1 ≤ length w.text

-- the numbers that show a word that makes one
abbrev pub Later : ℕ → Type 0
Later n = ((2 ≤ n) × (n ≤ 9)) ⊎ (n ≡ 45)

-- which word of the text a number shows
pub data ShownBy (text : List ℕ) : ℕ → Word → Type 0 where
  -- "for 1 the one byte or the opening quote"
  a_byte : {w : Word} → WordOf text w → w.kind ≡ bad → length w.text ≡ 1 → ShownBy text 1 w
  -- "or the text ends early (empty part at the end)"
  too_early : {w : Word} → WordOf text w → w ≡ end_of text → ShownBy text 2 w
  -- "2 word not allowed here", 3 to 9 and 45
  a_word : {n : ℕ} {w : Word} → Later n → Shown text w → ShownBy text n w

-- the part of a refusal with this number
pub data ShownAt (text : List ℕ) : ℕ → Part → Type 0 where
  at_word : {n : ℕ} {w : Word} → ShownBy text n w → ShownAt text n (part_of w)
  -- "for over-long text and 20 it is the empty part at the end"
  over_long : 32768 < length text → ShownAt text 9 (part_of (end_of text))
  too_short : ShownAt text 20 (part_of (end_of text))

-- the bytes that stand there: a word's, or none
pub data Shows (text : List ℕ) (n : ℕ) : List ℕ → Type 0 where
  the_word : {w : Word} → ShownBy text n w → Shows text n w.text
  nothing : ((n ≡ 9) × (32768 < length text)) ⊎ (n ≡ 20) → Shows text n []

-- all of these lie in the text; a part of 1 is one byte, and only 2, 9 (over-long text) and 20 show none, and that at the text's end
pub record LiesIn (text : List ℕ) (n : ℕ) (at : Part) : Type 0 where
  pub inside : at.start + at.size ≤ length text
  pub one_byte : n ≡ 1 → at.size ≡ 1
  pub empty : at.size ≡ 0 → (at.start ≡ length text) × ((n ≡ 2) ⊎ (((n ≡ 9) × (32768 < length text)) ⊎ (n ≡ 20)))
