-- What `next_word` promises.
use Rattle.std.specs.Prelude.{◌≡◌, List, [], ◌∷◌, ℕ, ◌+◌, ◌≤◌, ◌<◌, length, take, drop}
use Rattle.scanner.specs.declared.WordAt.{WordAt}
use Rattle.words.specs.Words.{Word, words_at}

-- a word that the code found, as the definitions have it
abbrev pub as_word : List ℕ → WordAt → Word
as_word text w = record { kind = w.kind; start = w.start; text = take w.len (drop w.start text) }

-- w is the first of the words from the place `at` on; the others are those from the place `next` on, or there are none after a bad
-- word (kind 0) and after the end (kind 1)
pub record Next (text : List ℕ) (at : ℕ) (w : WordAt) : Type 0 where
  pub more : 2 ≤ w.kind → words_at text at ≡ as_word text w ∷ words_at text w.next
  pub final : w.kind < 2 → words_at text at ≡ as_word text w ∷ []
  pub moves : 2 ≤ w.kind → at < w.next
  pub low : at ≤ w.start
  pub onto : at ≤ w.next
  -- inside the text, where `at` is
  pub inside : at ≤ length text → w.start + w.len ≤ length text
  pub high : at ≤ length text → w.next ≤ length text
