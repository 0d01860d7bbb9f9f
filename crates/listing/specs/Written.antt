-- What the functions that write a listing promise.
use Rattle.std.specs.Prelude.{List, ◌≡◌, ℕ, ◌+◌, ◌≤◌, length, take}
use Rattle.std.proofs.lemmas.List.Edits.{sets}
use Rattle.machine.specs.Bytes.{over}

-- the bytes xs stand in the buffer from `at` on, and the next place is behind them; past the buffer's end nothing is written
pub record Puts (xs old : List ℕ) (at : ℕ) (new : List ℕ) (r : ℕ) : Type 0 where
  pub bytes : new ≡ sets old at xs
  pub next : r ≡ at + length xs

-- a buffer with the bytes xs from its start on, as many as it has room for; behind them it keeps what it held
unfoldable pub filled : List ℕ → List ℕ → List ℕ
filled xs old = take (length old) (over xs old)

-- no listing is longer
abbrev pub longest : ℕ
longest = 49152

-- the buffer is filled with the listing xs; r is the length of the whole listing, also where the buffer is shorter
pub record Listed (xs old new : List ℕ) (r : ℕ) : Type 0 where
  pub bytes : new ≡ filled xs old
  pub count : r ≡ length xs
  pub short : r ≤ longest
