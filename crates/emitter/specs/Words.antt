-- Writing words of 16 bits, high byte first, into a list of bytes. A word past the last whole one is not written.
use Rattle.std.specs.Prelude.{ℕ, ◌+◌, ◌*◌, ◌/◌, ◌%◌, cond, List, [], ◌∷◌, ltb, length, set}

-- whole words of a list of bytes: an odd last byte counts for nothing
abbrev pub words : List ℕ → ℕ
words s = length s / 2

-- s with the word x at index i, from 0
unfoldable pub set_word : List ℕ → ℕ → ℕ → List ℕ
set_word s i x = cond (ltb i (words s)) (set (set s (2 * i) (x / 256)) (2 * i + 1) (x % 256)) s

-- s with the words ws from index i on
unfoldable pub puts : List ℕ → ℕ → List ℕ → List ℕ
puts s i [] = s
puts s i (w ∷ ws) = puts (set_word s i w) (i + 1) ws

-- the low 16 bits of a number
unfoldable pub cut : ℕ → ℕ
cut x = x % 65536
