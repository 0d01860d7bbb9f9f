-- What writing words and numbers of 64 bits into a lent buffer leaves there.
use Rattle.std.specs.Prelude.{List, ◌++◌, ℕ, ◌+◌, ◌*◌, ◌/◌, ◌%◌, drop, set, replicate}
use Rattle.machine.specs.Bytes.{count, bytes_of}

-- a buffer whose whole words are 0; "an odd last byte .. is not touched"
unfoldable pub zeroed : List ℕ → List ℕ
zeroed s = bytes_of (replicate (count s) 0) ++ drop (2 * count s) s

-- a buffer with the word x written at index i
unfoldable pub put_word : List ℕ → ℕ → ℕ → List ℕ
put_word out i x = set (set out (2 * i) (x / 256)) (2 * i + 1) (x % 256)

-- a buffer with the number n written as four words from index i on
unfoldable pub put64 : List ℕ → ℕ → ℕ → List ℕ
put64 out i n = put_word (put_word (put_word (put_word out i (n / 281474976710656)) (i + 1) (n / 4294967296 % 65536)) (i + 2) (n / 65536 % 65536)) (i + 3) (n % 65536)

-- all of this file computes where this is unfolded
unfoldable pub opened : Unit {0}
unfolding zeroed put_word put64
opened = tt
