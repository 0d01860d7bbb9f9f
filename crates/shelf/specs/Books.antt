-- Books added one after the other by `sst_add_book`, over the bytes that a C caller has: they are a shelf, and all that is proved of shelves holds of them.
use Rattle.std.specs.Prelude.{List, [], ◌∷◌, ◌≡◌, ℕ, replicate}
use Rattle.std.proofs.Math.Option.{some}
use Rattle.figures.specs.Figures.{Figures}
use Rattle.figures.specs.Form.{figures_bytes, figures_of, Outcome, given_of, add_bytes}
use Rattle.figures.specs.Shelf.{Shelf}
use Rattle.figures.specs.Visits.{Given}
use Rattle.machine.specs.Bytes.{table_of}

-- "from empty figures": zero bytes
unfoldable pub empty_bytes : List ℕ
empty_bytes = replicate 33296 0

-- the bytes of figures after some calls over one table, whatever else each is given, and the books that were added, the last first: 46 adds none
pub data Calls (table : List ℕ) : List ℕ → List Given → Type 0 where
  no_call : Calls table empty_bytes []
  adds : {figures : List ℕ} {gs : List Given} → Calls table figures gs → (tokens answers : List ℕ) (budget allowance : ℕ) (buffer : List ℕ) (o : Outcome)
      → o ≡ add_bytes table tokens answers budget allowance figures buffer → (o.number ≡ 46 → ⊥) → Calls table o.figures (given_of tokens answers budget allowance buffer ∷ gs)
  passes : {figures : List ℕ} {gs : List Given} → Calls table figures gs → (tokens answers : List ℕ) (budget allowance : ℕ) (buffer : List ℕ) (o : Outcome)
      → o ≡ add_bytes table tokens answers budget allowance figures buffer → o.number ≡ 46 → Calls table o.figures gs

-- the bytes are those of the books' shelf, and are taken as such: no further call answers 21
pub record Kept (table figures : List ℕ) (gs : List Given) : Type 0 where
  pub sums : Figures
  pub shelf : Shelf (table_of table) sums gs
  pub bytes : figures ≡ figures_bytes sums
  pub taken : figures_of figures ≡ some sums
  pub not_21 : (tokens answers : List ℕ) (budget allowance : ℕ) (buffer : List ℕ) → (add_bytes table tokens answers budget allowance figures buffer).number ≡ 21 → ⊥

abbrev pub FromCalls : Type 0
FromCalls = (table figures : List ℕ) (gs : List Given) → Calls table figures gs → Kept table figures gs
