-- Where the cells of each rule begin, and what sort it is, by the rules of all objects in one row.
use Rattle.std.specs.Prelude.{List, [], ◌∷◌, ◌≡◌, ℕ, zero, suc, ◌+◌, ◌<◌, length, get_or}
use Rattle.base.specs.Common.{given}
use Rattle.cells.specs.Cells.{sort_of}
use Rattle.linkchecks.specs.Row.{Item}

-- how many cells the rules before the j-th have
unfoldable pub cells_before : List Item → ℕ → ℕ
cells_before [] j = 0
cells_before (x ∷ xs) zero = 0
cells_before (x ∷ xs) (suc j) = length x.rule.cells + cells_before xs j

-- the sort of the j-th
unfoldable pub sort_at : List Item → ℕ → ℕ
sort_at [] j = 0
sort_at (x ∷ xs) zero = sort_of (given x.rule.gives)
sort_at (x ∷ xs) (suc j) = sort_at xs j

-- of the first k rules, as many as there is room for; a start of 65,535 or more is not told
pub record Placed (row : List Item) (k : ℕ) (starts sorts : List ℕ) : Type 0 where
  pub starts_are : (j : ℕ) → j < k → j < length starts → cells_before row j < 65535 → get_or starts j 0 ≡ cells_before row j
  pub sorts_are : (j : ℕ) → j < k → j < length sorts → get_or sorts j 0 ≡ sort_at row j

-- the number x is put at k, where there is room
pub record Put (xs : List ℕ) (k x : ℕ) (xs' : List ℕ) : Type 0 where
  pub same : length xs' ≡ length xs
  pub there : k < length xs → get_or xs' k 0 ≡ x
  pub kept : (j : ℕ) → (j ≡ k → ⊥) → get_or xs' j 0 ≡ get_or xs j 0

-- all of this file computes where this is unfolded
unfoldable pub opened : Unit {0}
unfolding cells_before sort_at
opened = tt
