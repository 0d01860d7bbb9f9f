-- A program's rules as a row of cells, the processor's own form between resolving and emission. Self-describing, and never longer than the
-- table but for the end of each choice rule: a program whose table fits 4,096 words has at most 4,096 + 128 cells.
use Rattle.std.specs.Prelude.{Bool, true, false, List, [], ◌∷◌, ◌++◌, ℕ, zero, suc, ◌+◌, length}
use Rattle.base.specs.Tree.{plain, cycle, choice, done, ◌▸◌, nil, alternative, absent, otherwise}
use Rattle.program.specs.Program.{Plain, match, any, emit, error, exit, call, back, give, update, update_with, Selector, by_token, by_rule, by_operation, by_operation_with, Act, Acts, Alts, Other, Rule}

-- First cells: 0 the end of a list, 1 exit, 2 a cycle, 3 to 6 and 8 to 10 as the instructions, 7 and 11 a choice by token and by rule, 12 and 14
-- no otherwise (14 for an input choice), 13 otherwise, 64 + j an alternative with j labels, 256 and up the operations.

-- each with the cells k behind it
unfoldable pub plain_cells : Plain → List ℕ → List ℕ
plain_cells (match t) k = 3 ∷ t ∷ k
plain_cells any k = 4 ∷ k
plain_cells (emit t) k = 5 ∷ t ∷ k
plain_cells (error t) k = 6 ∷ t ∷ k
plain_cells exit k = 1 ∷ k
plain_cells (call r) k = 8 ∷ r ∷ k
plain_cells back k = 9 ∷ k
plain_cells (give v) k = 10 ∷ v ∷ k
plain_cells (update op) k = op ∷ k
plain_cells (update_with op v) k = op ∷ v ∷ k

unfoldable pub selector_cells : Selector → List ℕ → List ℕ
selector_cells by_token k = 7 ∷ k
selector_cells (by_rule r) k = 11 ∷ r ∷ k
selector_cells (by_operation op) k = op ∷ k
selector_cells (by_operation_with op v) k = op ∷ v ∷ k

-- the cell that stands for no otherwise
unfoldable pub absent_cell : Selector → ℕ
absent_cell by_token = 14
absent_cell (by_rule r) = 12
absent_cell (by_operation op) = 12
absent_cell (by_operation_with op v) = 12

unfoldable mutual
  pub act_cells : Act → List ℕ → List ℕ
  act_cells (plain p) k = plain_cells p k
  act_cells (cycle b) k = 2 ∷ acts_cells b k
  act_cells (choice s q o) k = selector_cells s (alts_cells q (other_cells o (absent_cell s) k))

  -- a list of actions, closed by 0
  pub acts_cells : Acts → List ℕ → List ℕ
  acts_cells done k = 0 ∷ k
  acts_cells (a ▸ q) k = act_cells a (acts_cells q k)

  pub alts_cells : Alts → List ℕ → List ℕ
  alts_cells nil k = k
  alts_cells (alternative ls b q) k = (64 + length ls) ∷ (ls ++ acts_cells b (alts_cells q k))

  pub other_cells : Other → ℕ → List ℕ → List ℕ
  other_cells absent c k = c ∷ k
  other_cells (otherwise b) c k = 13 ∷ acts_cells b k

-- the rules one after the other
unfoldable pub rules_cells : List Rule → List ℕ
rules_cells [] = []
rules_cells (r ∷ rs) = acts_cells r.body (rules_cells rs)

-- where the cells of rule r begin, the first rule's at i
unfoldable pub cells_start : ℕ → List Rule → ℕ → ℕ
cells_start i [] r = i
cells_start i (b ∷ bs) zero = i
cells_start i (b ∷ bs) (suc r) = cells_start (i + length (acts_cells b.body [])) bs r

-- what a rule is, for its end: 1 a choice rule, 0 a procedure rule
unfoldable pub sort_of : Bool → ℕ
sort_of true = 1
sort_of false = 0

-- all of this file computes where this is unfolded
unfoldable pub opened : Unit {0}
unfolding plain_cells selector_cells absent_cell act_cells rules_cells cells_start sort_of
opened = tt
