-- Choice tables are gone through in blocks of 16 entries; the ways of a block are marked once.
use Rattle.std.specs.Prelude.{true, false, Option, List, ◌≡◌, ℕ, ◌+◌, ◌*◌, ◌-◌, ◌/◌, ◌%◌, ◌<◌, ◌≤◌, eqb, length, get_or}
use Rattle.base.specs.Common.{member}
use Rattle.loading.specs.Taking.{labelled}
use Rattle.loader.specs.Marking.{Work, Marked}

-- these locations are inside the table and are marked
pub record AllMarked (size : ℕ) (seen ms : List ℕ) : Type 0 where
  pub each : (m : ℕ) → member m ms ≡ true → (1 ≤ m) × (m ≤ size) × (eqb (get_or seen (m - 1) 0) 0 ≡ false)

-- a block begins at a location that 32 divides, or one behind it; where its flag is set, its labels lead to marked locations
pub record Passed (T : List ℕ) (size : ℕ) (seen passed : List ℕ) : Type 0 where
  pub room : length passed ≡ 256
  pub ways : (b : ℕ) → (get_or passed b 0 ≡ 0 → ⊥) → AllMarked size seen (labelled T 16 (b / 2 * 32 + b % 2))

-- what a function leaves that goes through choice tables
pub record Through (T : List ℕ) (size : ℕ) (w : Work) (r : Option ℕ) (seen order passed : List ℕ) : Type 0 where
  pub marked : Marked size w r seen order
  pub passes : Passed T size seen passed

-- some of the entries that are left
pub record Piece (left r : ℕ) : Type 0 where
  pub some_entries : 1 ≤ r
  pub low : r ≤ left

-- the entries are a block
pub record Whole (first count : ℕ) : Type 0 where
  pub size : count ≡ 16
  pub start : first % 32 < 2
