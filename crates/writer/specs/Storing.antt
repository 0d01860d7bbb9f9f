-- What writing a file leaves with its caller.
use Rattle.std.specs.Prelude.{Result, Ok, Err, List, ◌≡◌, ℕ, ◌+◌, ◌*◌, ◌-◌, ◌/◌, ◌≤◌, length}
use Rattle.loading.specs.File.{Answer, numbers_of, lent_bytes}
use Rattle.loader.specs.Records.{error_number}
use Rattle.loader.specs.declared.FileError.{FileError}

-- what C is told of a result: its number, and the words of the file
abbrev pub number_in : Result ℕ FileError → ℕ
number_in (Ok words) = 0
number_in (Err error) = error_number error

abbrev pub words_in : Result ℕ FileError → ℕ
words_in (Ok words) = words
words_in (Err error) = 0

-- the result and the lent bytes are the answer's
pub record Stores (a : Answer) (r : Result ℕ FileError) (before after : List ℕ) : Type 0 where
  pub number_is : number_in r ≡ (numbers_of a).number
  pub words_are : words_in r ≡ (numbers_of a).words
  pub lent : after ≡ lent_bytes a before

-- a table of n words, 1 to 4,096
pub record Sized (ws : List ℕ) (n : ℕ) : Type 0 where
  pub size : n ≡ length ws
  pub some_words : 1 ≤ n
  pub low : n ≤ 4096

-- the buffer has room for the file's words
pub record Fits (file : List ℕ) (total : ℕ) (out : List ℕ) : Type 0 where
  pub words : total ≡ length file
  pub room : 2 * total ≤ length out
  pub low : total ≤ 5000

-- the words of the file of a table of n words
unfoldable pub file_length : ℕ → ℕ
file_length n = n + 2 * ((n + 256 - 1) / 256) + 4

-- all of this file computes where this is unfolded
unfoldable pub opened : Unit {0}
unfolding file_length
opened = tt
