-- The cells of a rule of a part, with marks in place of the numbers of its calls, in one pass over the cells by what each first cell tells.
use Rattle.std.specs.Prelude.{List, [], ◌∷◌, ◌≡◌, ℕ, zero, suc, ◌+◌, ◌-◌, ltb, if◌then◌else◌}
use Rattle.linker.specs.Close.{is_call, behind}
use Rattle.partrules.specs.declared.Pass.{Pass}

-- names are numbered below `first`, pairs from there on
unfoldable pub mark_by : ℕ → ℕ → ℕ
mark_by first i = if ltb i first then 0 else 1 + (i - first)

module _ (to : ℕ → ℕ) where
  -- the cell for x, which stands behind this first cell
  unfoldable pub operand : ℕ → ℕ → ℕ
  operand f x = if is_call f then to x else x

  -- cells of which `left` stand behind this first cell
  unfoldable pub turn_from : ℕ → ℕ → List ℕ → List ℕ
  turn_from f left [] = []
  turn_from f zero (x ∷ cells) = x ∷ turn_from x (behind x) cells
  turn_from f (suc left) (x ∷ cells) = operand f x ∷ turn_from f left cells

  unfoldable pub turn_cells : List ℕ → List ℕ
  turn_cells cells = turn_from 0 0 cells

  -- what a pass makes of the next cell
  pub record Turned (s : Pass) (x : ℕ) (r : Pass) : Type 0 where
    pub goes : (cells : List ℕ) → turn_from s.first s.left (x ∷ cells) ≡ r.cell ∷ turn_from r.first r.left cells

-- all of this file computes where this is unfolded
unfoldable pub opened : Unit {0}
unfolding mark_by operand turn_from turn_cells
opened = tt
