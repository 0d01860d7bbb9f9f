-- The cells of a level's rule, as they are appended: `k` is what stands behind them.
use Rattle.std.specs.Prelude.{Bool, true, false, List, [], ◌∷◌, ℕ}
use Rattle.program.specs.Made.{Operator}

-- `| token: @called .emits`
unfoldable pub operator_cells : ℕ → List Operator → List ℕ → List ℕ
operator_cells c [] k = k
operator_cells c (o ∷ os) k = 65 ∷ o.token ∷ 8 ∷ c ∷ 5 ∷ o.emits ∷ 0 ∷ operator_cells c os k

unfoldable pub level_cells : Bool → ℕ → ℕ → List Operator → List ℕ → List ℕ
level_cells false own h os k = 8 ∷ h ∷ 2 ∷ 7 ∷ operator_cells h os (13 ∷ 1 ∷ 0 ∷ 0 ∷ 0 ∷ k)
level_cells true own h os k = 8 ∷ h ∷ 7 ∷ operator_cells own os (13 ∷ 0 ∷ 0 ∷ k)

-- before the operators, and behind them
unfoldable pub open_cells : Bool → ℕ → List ℕ
open_cells false h = 8 ∷ h ∷ 2 ∷ 7 ∷ []
open_cells true h = 8 ∷ h ∷ 7 ∷ []

unfoldable pub close_cells : Bool → List ℕ
close_cells false = 13 ∷ 1 ∷ 0 ∷ 0 ∷ 0 ∷ []
close_cells true = 13 ∷ 0 ∷ 0 ∷ []

-- the rule that the alternatives call
unfoldable pub called_by : Bool → ℕ → ℕ → ℕ
called_by false own h = h
called_by true own h = own

-- all of this file computes where this is unfolded
unfoldable pub opened : Unit {0}
unfolding operator_cells level_cells open_cells close_cells called_by
opened = tt
