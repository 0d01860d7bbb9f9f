-- What loading promises, in the words of the request. The proof is in proofs/Files.antt.
use Rattle.std.specs.Prelude.{true, List, ◌≡◌, ℕ, ◌≤◌, length}
use Rattle.loading.specs.File.{file_bytes, allowed, done, load}
use Rattle.loading.specs.Reach.{Taken}

-- the bytes are the file of this table and this verdict, which has room in a lent table of so many words and may be taken
pub record Loadable (file : List ℕ) (room : ℕ) (ws : List ℕ) (verdict : ℕ) : Type 0 where
  -- "One table and verdict have one file."
  pub one_file : file ≡ file_bytes ws verdict
  -- "table length and 1 or 0 for the verdict", "a length outside 1 to 4,096"
  pub limits : allowed (length ws) verdict ≡ true
  pub long_enough : length ws ≤ room
  -- "no reachable location gives 37"
  pub takes : Taken ws

-- "The loader takes a file exactly if .."
pub record LoadsExactly (file : List ℕ) (room : ℕ) (ws : List ℕ) (verdict : ℕ) : Type 0 where
  pub only_these : load file room ≡ done ws verdict → Loadable file room ws verdict
  pub all_these : Loadable file room ws verdict → load file room ≡ done ws verdict
