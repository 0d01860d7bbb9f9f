-- "numbers and byte slices, words high byte first; an odd last byte counts for nothing and is not touched"
use Rattle.std.specs.Prelude.{List, [], ◌∷◌, ◌++◌, ℕ, ◌+◌, ◌*◌, ◌/◌, ◌%◌, length, take, drop, get_or}

-- whole words in a buffer
unfoldable pub count : List ℕ → ℕ
count s = length s / 2

-- the words of a buffer
unfoldable pub words_of : List ℕ → List ℕ
words_of [] = []
words_of (h ∷ []) = []
words_of (h ∷ l ∷ s) = (h * 256 + l) ∷ words_of s

-- the word at index i, from 0
unfoldable pub word_at : List ℕ → ℕ → ℕ
word_at s i = get_or s (2 * i) 0 * 256 + get_or s (2 * i + 1) 0

-- "Table words past 4,096 are outside the table."
unfoldable pub table_of : List ℕ → List ℕ
table_of s = take 4096 (words_of s)

-- the bytes of words
unfoldable pub bytes_of : List ℕ → List ℕ
bytes_of [] = []
bytes_of (w ∷ ws) = w / 256 ∷ w % 256 ∷ bytes_of ws

-- "Event words not written keep what they held": a buffer with bytes written from its start
unfoldable pub over : List ℕ → List ℕ → List ℕ
over new s = new ++ drop (length new) s

-- all of this file computes where this is unfolded
unfoldable pub opened : Unit {0}
unfolding count words_of word_at table_of bytes_of over
opened = tt
