-- What stands behind a table that the check on loading takes changes nothing, as a caller from C meets it: he may hand the bytes up to the table's end, or
-- all of the buffer that he lent, whatever its rest holds.
use Rattle.std.specs.Prelude.{List, ◌++◌, ◌≡◌, ℕ, ◌<◌}
use Rattle.loading.specs.Reach.{Taken}
use Rattle.machine.specs.Bytes.{table_of}
use Rattle.bytewise.specs.ByteCalls.{Slice, ByteCalls}

-- a list of calls over the one leads to the same bytes of the walk, words of events, steps and numbers over the other
pub record SameCalls (short long tokens answers : List ℕ) (allowance : ℕ) : Type 0 where
  pub to_long : {s ws : List ℕ} {n : ℕ} {ns : List ℕ} → ByteCalls short tokens answers allowance s ws n ns → ByteCalls long tokens answers allowance s ws n ns
  pub to_short : {s ws : List ℕ} {n : ℕ} {ns : List ℕ} → ByteCalls long tokens answers allowance s ws n ns → ByteCalls short tokens answers allowance s ws n ns

abbrev pub BehindBytes : Type 0
BehindBytes =
    (short long more : List ℕ) → Slice short → Taken (table_of short) → table_of long ≡ table_of short ++ more
    → (tokens answers : List ℕ) → Slice tokens → Slice answers → (allowance : ℕ) → allowance < 65536 → SameCalls short long tokens answers allowance
