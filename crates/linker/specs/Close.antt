-- Closing a rule: its cells with the number of a rule of the whole program for the mark of each call, in one pass over the cells by what each first cell
-- tells. Cells are crate cells', but the operand of a call is 0 for the rule of its name and 1 + k for the k-th pair of section and operand rule.
use Rattle.std.specs.Prelude.{Bool, cond, ◌||◌, List, [], ◌∷◌, ◌≡◌, ℕ, zero, suc, ◌-◌, eqb, ltb, get_or, drop, if◌then◌else◌}

-- a call, or a choice by a rule: its operand is a mark
unfoldable pub is_call : ℕ → Bool
is_call x = eqb x 8 || eqb x 11

-- by the cells below 15
abbrev pub behind_table : List ℕ
behind_table = 0 ∷ 0 ∷ 0 ∷ 1 ∷ 0 ∷ 1 ∷ 1 ∷ 0 ∷ 1 ∷ 0 ∷ 1 ∷ 1 ∷ 0 ∷ 0 ∷ 0 ∷ []

-- how many cells stand behind a first cell and begin nothing themselves: its operand, or the labels of an alternative
unfoldable pub behind : ℕ → ℕ
behind x = cond (ltb x 15) (get_or behind_table x 0) (cond (ltb x 64) 0 (cond (ltb x 256) (x - 64) (cond (ltb x 512) 0 (cond (ltb x 768) 1 (cond (ltb x 1024) 0 1)))))

-- the number at k, as a row of numbers has it
abbrev pub in_row : List ℕ → ℕ → ℕ
in_row row k = get_or row k 0

-- lowest: the number of the lowest rule of each pair; places: the number of the rule of each call's name, in text order, a pair's call among them
module _ (lowest : ℕ → ℕ) where
  -- the number for a mark
  unfoldable pub aimed : List ℕ → ℕ → ℕ
  aimed places zero = get_or places 0 0
  aimed places (suc k) = lowest k

  -- the cell for x, which stands behind this first cell
  unfoldable pub operand : ℕ → List ℕ → ℕ → ℕ
  operand first places x = if is_call first then aimed places x else x

  unfoldable pub places_after : ℕ → List ℕ → List ℕ
  places_after first places = if is_call first then drop 1 places else places

  -- cells of which `left` stand behind this first cell
  unfoldable pub close_from : ℕ → ℕ → List ℕ → List ℕ → List ℕ
  close_from first left places [] = []
  close_from first zero places (x ∷ cells) = x ∷ close_from x (behind x) places cells
  close_from first (suc left) places (x ∷ cells) = operand first places x ∷ close_from first left (places_after first places) cells

  unfoldable pub close_cells : List ℕ → List ℕ → List ℕ
  close_cells places cells = close_from 0 0 places cells

  -- What a place has to be for the mark of a call to become the number that the call is to have

  module _ (mark to : ℕ → ℕ) where
    pub record TellsOne (i place : ℕ) : Type 0 where
      pub by_name : mark i ≡ 0 → place ≡ to i
      pub by_pair : (k : ℕ) → mark i ≡ suc k → lowest k ≡ to i

    -- of calls in text order, `more` being the places behind theirs
    unfoldable pub Tells : List ℕ → List ℕ → List ℕ → Type 0
    Tells [] places more = places ≡ more
    Tells (i ∷ is) [] more = ⊥
    Tells (i ∷ is) (p ∷ places) more = TellsOne i p × Tells is places more

-- all of this file computes where this is unfolded
unfoldable pub opened : Unit {0}
unfolding is_call behind aimed operand places_after close_from close_cells Tells
opened = tt
