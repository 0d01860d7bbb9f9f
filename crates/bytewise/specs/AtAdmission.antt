-- Rights over the operations as a caller from C meets them: for the very bytes that `sst_load_admitted` left in a lent buffer, and every list of calls of
-- `sst_whole` and `sst_paused` over them.
use Rattle.std.specs.Prelude.{Bool, true, ◌&&◌, List, [], ◌∷◌, ◌≡◌, ℕ, ◌<◌, eqb, if◌then◌else◌}
use Rattle.loading.specs.File.{load, lent_bytes}
use Rattle.machine.specs.Bytes.{count}
use Rattle.rights.specs.Rights.{granted, Numbers, admit_loaded}
use Rattle.bytewise.specs.ByteCalls.{Slice, ByteCalls}

-- what `sst_load_admitted` leaves with its caller, by its contract: the numbers x, and `table` in the buffer where `lent` was
pub record Admits (file set lent table : List ℕ) (x : Numbers) : Type 0 where
  pub source : Slice file
  pub buffer : Slice lent
  pub numbers : x ≡ admit_loaded set (load file (count lent))
  pub bytes : table ≡ lent_bytes (load file (count lent)) lent

-- the words of events have no operation outside the set: "3, the operation's instruction number, its parameter or 0"
unfoldable pub within_words : List ℕ → List ℕ → Bool
within_words set [] = true
within_words set (kind ∷ []) = true
within_words set (kind ∷ op ∷ []) = true
within_words set (kind ∷ op ∷ parameter ∷ ws) = (if eqb kind 3 then granted set op else true) && within_words set ws

-- "No fresh walk of an admitted table, its calls as in demand 3, then writes an event of an operation outside the set."
abbrev pub KeepsBytes : List ℕ → List ℕ → Type 0
KeepsBytes table set =
    (tokens answers : List ℕ) → Slice tokens → Slice answers → (allowance : ℕ) → allowance < 65536
    → (s ws : List ℕ) (n : ℕ) (ns : List ℕ) → ByteCalls table tokens answers allowance s ws n ns → within_words set ws ≡ true
