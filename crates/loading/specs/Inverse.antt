-- "One table and verdict have one file": writing and loading are each other's inverse. Proved in proofs/Inverse.antt.
use Rattle.std.specs.Prelude.{true, List, ◌≡◌, ℕ, ◌≤◌, length}
use Rattle.machine.specs.Bytes.{bytes_of}
use Rattle.loading.specs.File.{file_words, file_bytes, table_named, verdict_named, allowed, is_file, done, load, store}

pub record OneFile : Type 0 where
  -- the file of a table and a verdict is one, and names them
  pub file_is : (ws : List ℕ) (v : ℕ) → allowed (length ws) v ≡ true → is_file (file_bytes ws v) ≡ true
  pub table_file : (ws : List ℕ) (v : ℕ) → allowed (length ws) v ≡ true → table_named (file_bytes ws v) ≡ ws
  pub verdict_file : (ws : List ℕ) (v : ℕ) → allowed (length ws) v ≡ true → verdict_named (file_bytes ws v) ≡ v
  -- bytes that are a file are that of the table and the verdict that they name: no others have the same
  pub is_a_file : (s : List ℕ) → is_file s ≡ true → file_bytes (table_named s) (verdict_named s) ≡ s
  -- what is written is loaded, wherever the table has room
  pub written_loads : (ws : List ℕ) (v room room' : ℕ) (file : List ℕ) (claim : ℕ) → store ws v room ≡ done file claim → length ws ≤ room'
      → load (bytes_of file) room' ≡ done ws v
  -- what is loaded is written, wherever the file has room: the very bytes that were taken
  pub loaded_writes : (s : List ℕ) (room room' : ℕ) (ws : List ℕ) (v : ℕ) → load s room ≡ done ws v → length (file_words ws v) ≤ room'
      → (store ws v room' ≡ done (file_words ws v) v) × (bytes_of (file_words ws v) ≡ s)
