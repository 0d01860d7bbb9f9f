-- The check on loading as a caller from C meets it: for the very bytes that `sst_load` left in a lent buffer, and every list of calls of `sst_whole`
-- and `sst_paused` over them.
use Rattle.std.specs.Prelude.{List, ◌∷◌, ◌≡◌, ℕ, ◌<◌}
use Rattle.loading.specs.File.{load, lent_bytes, Numbers, numbers_of}
use Rattle.machine.specs.Bytes.{count}
use Rattle.bytewise.specs.ByteCalls.{Slice, ByteCalls}

-- what `sst_load` leaves with its caller, by its contract: the numbers x, and `table` in the buffer where `lent` was
pub record Loads (file lent table : List ℕ) (x : Numbers) : Type 0 where
  pub source : Slice file
  pub buffer : Slice lent
  pub numbers : x ≡ numbers_of (load file (count lent))
  pub bytes : table ≡ lent_bytes (load file (count lent)) lent

-- "no walk begun afresh on a taken table, its calls as in demand 3, answers 37"
abbrev pub NeverBytes37 : List ℕ → Type 0
NeverBytes37 table =
    (tokens answers : List ℕ) → Slice tokens → Slice answers → (allowance : ℕ) → allowance < 65536
    → (s ws : List ℕ) (n number : ℕ) (ns : List ℕ) → ByteCalls table tokens answers allowance s ws n (number ∷ ns) → number ≡ 37 → ⊥
