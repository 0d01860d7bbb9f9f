-- The cells of a rule made are those of the definition, in the parts that the code appends.
use mathlib.Core.Bool.{Bool, true, false}
use mathlib.Core.List.{List, [], ◌∷◌, ◌++◌, append_assoc}
use mathlib.Core.Path.{◌≡◌, refl, sym, ap, ◌∙◌}
use Prim.Native.Nat.{ℕ}
use Rattle.cells.specs.Cells.{plain_cells, selector_cells, act_cells, acts_cells, alts_cells, rules_cells}
use Rattle.levels.specs.LevelCells.{operator_cells, level_cells, open_cells, close_cells, called_by}
use Rattle.program.specs.Made.{Operator, Level, operator_alts, level_body, level_rule}
use Rattle.program.specs.Program.{Rule}

alts-are : (c : ℕ) (os : List Operator) (k : List ℕ) → alts_cells (operator_alts c os) k ≡ operator_cells c os k
unfolding operator_alts operator_cells act_cells plain_cells
alts-are c [] k = refl
alts-are c (o ∷ os) k = ap {B = List ℕ} (λ r. 65 ∷ o.token ∷ 8 ∷ c ∷ 5 ∷ o.emits ∷ 0 ∷ r) (alts-are c os k)

pub level-are : (b : Bool) (own h : ℕ) (os : List Operator) (k : List ℕ) → acts_cells (level_body b own h os) k ≡ level_cells b own h os k
unfolding level_body level_cells act_cells plain_cells selector_cells
level-are false own h os k = ap {B = List ℕ} (λ r. 8 ∷ h ∷ 2 ∷ 7 ∷ r) (alts-are h os (13 ∷ 1 ∷ 0 ∷ 0 ∷ 0 ∷ k))
level-are true own h os k = ap {B = List ℕ} (λ r. 8 ∷ h ∷ 7 ∷ r) (alts-are own os (13 ∷ 0 ∷ 0 ∷ k))

operators-behind : (c : ℕ) (os : List Operator) (k : List ℕ) → operator_cells c os k ≡ operator_cells c os [] ++ k
unfolding operator_cells
operators-behind c [] k = refl
operators-behind c (o ∷ os) k = ap {B = List ℕ} (λ r. 65 ∷ o.token ∷ 8 ∷ c ∷ 5 ∷ o.emits ∷ 0 ∷ r) (operators-behind c os k)

-- a level's cells before others
pub level-behind : (b : Bool) (own h : ℕ) (os : List Operator) (k : List ℕ) → level_cells b own h os k ≡ level_cells b own h os [] ++ k
unfolding level_cells
level-behind false own h os k =
    ap {B = List ℕ} (λ r. 8 ∷ h ∷ 2 ∷ 7 ∷ r)
    (operators-behind h os (13 ∷ 1 ∷ 0 ∷ 0 ∷ 0 ∷ k) ∙ (sym (append_assoc (operator_cells h os []) (13 ∷ 1 ∷ 0 ∷ 0 ∷ 0 ∷ []) k) ∙ ap (λ (l : List ℕ). l ++ k) (sym (operators-behind h os (13 ∷ 1 ∷ 0 ∷ 0 ∷ 0 ∷ [])))))
level-behind true own h os k =
    ap {B = List ℕ} (λ r. 8 ∷ h ∷ 7 ∷ r)
    (operators-behind own os (13 ∷ 0 ∷ 0 ∷ k) ∙ (sym (append_assoc (operator_cells own os []) (13 ∷ 0 ∷ 0 ∷ []) k) ∙ ap (λ (l : List ℕ). l ++ k) (sym (operators-behind own os (13 ∷ 0 ∷ 0 ∷ [])))))

-- its three parts
pub level-parts : (b : Bool) (own h : ℕ) (os : List Operator) → level_cells b own h os [] ≡ open_cells b h ++ (operator_cells (called_by b own h) os [] ++ close_cells b)
unfolding level_cells open_cells close_cells called_by
level-parts false own h os = ap {B = List ℕ} (λ r. 8 ∷ h ∷ 2 ∷ 7 ∷ r) (operators-behind h os (13 ∷ 1 ∷ 0 ∷ 0 ∷ 0 ∷ []))
level-parts true own h os = ap {B = List ℕ} (λ r. 8 ∷ h ∷ 7 ∷ r) (operators-behind own os (13 ∷ 0 ∷ 0 ∷ []))

-- a rule made, and more behind it
pub rule-cells : (l : Level) (own h : ℕ) (more : List Rule) → rules_cells (level_rule l own h ∷ more) ≡ level_cells l.right own h l.operators [] ++ rules_cells more
unfolding rules_cells level_rule
rule-cells l own h more = level-are l.right own h l.operators (rules_cells more) ∙ level-behind l.right own h l.operators (rules_cells more)
