-- The rules that stand for operators under precedence: "Its meaning is that of the nested rules in section 4.2 of document 000, one for
-- each level used." What they are is a list of plain rules; table, walks, finishing and limits know nothing else of operators.
use Rattle.std.specs.Prelude.{Bool, true, false, ◌||◌, List, [], ◌∷◌, ℕ, zero, suc, eqb, ltb, length, if◌then◌else◌}
use Rattle.base.specs.Tree.{plain, cycle, choice, done, ◌▸◌, nil, alternative, otherwise}
use Rattle.program.specs.Program.{emit, exit, call, by_token, Acts, Alts, Rule}

-- an entry of an operators section: input token, level, side, output token
pub record Operator : Type 0 where
  pub token : ℕ
  pub level : ℕ
  pub right : Bool
  pub emits : ℕ

-- a level used: its side, and its operators in the section's order
pub record Level : Type 0 where
  pub right : Bool
  pub operators : List Operator

-- the operators of a level
unfoldable pub at_level : ℕ → List Operator → List Operator
at_level l [] = []
at_level l (o ∷ os) = let more = at_level l os in if eqb o.level l then o ∷ more else more

-- "one for each level used"
unfoldable pub level_and : List Operator → List Level → List Level
level_and [] more = more
level_and (o ∷ os) more = record { right = o.right; operators = o ∷ os } ∷ more

-- the n levels from l on
unfoldable pub levels_from : ℕ → ℕ → List Operator → List Level
levels_from zero l os = []
levels_from (suc n) l os = level_and (at_level l os) (levels_from n (suc l) os)

-- "level 1 to 15", the lowest first
unfoldable pub levels_of : List Operator → List Level
levels_of os = levels_from 15 1 os

-- `| token: @called .emits` for each operator: "Alternatives follow the section's order."
unfoldable pub operator_alts : ℕ → List Operator → Alts
operator_alts called [] = nil
operator_alts called (o ∷ os) = alternative (o.token ∷ []) (plain (call called) ▸ plain (emit o.emits) ▸ done) (operator_alts called os)

-- "A left level calls the next higher one, then cycles over an input choice whose otherwise is `>`": @higher {[ .. | *: > ]}
-- "a right level calls the next higher one, then has an input choice that calls itself, its otherwise empty": @higher [ .. | *: ]
unfoldable pub level_body : Bool → ℕ → ℕ → List Operator → Acts
level_body false own higher os = plain (call higher) ▸ cycle (choice by_token (operator_alts higher os) (otherwise (plain exit ▸ done)) ▸ done) ▸ done
level_body true own higher os = plain (call higher) ▸ choice by_token (operator_alts own os) (otherwise done) ▸ done

unfoldable pub level_rule : Level → ℕ → ℕ → Rule
level_rule l own higher = record { valued = false; body = level_body l.right own higher l.operators }

-- "The highest calls the operand rule": the rule above the one at `own`, where these levels stand above it
unfoldable pub higher_of : ℕ → ℕ → List Level → ℕ
higher_of own operand [] = operand
higher_of own operand (l ∷ ls) = suc own

-- the rules of a pair of section and operand rule, from the place `own` on: "lowest level first"
unfoldable pub level_rules : ℕ → ℕ → List Level → List Rule
level_rules own operand [] = []
level_rules own operand (l ∷ ls) = level_rule l own (higher_of own operand ls) ∷ level_rules (suc own) operand ls

-- "limits .. cover those rules": some choice has more than 64 labels
unfoldable pub crowded : List Level → Bool
crowded [] = false
crowded (l ∷ ls) = ltb 64 (length l.operators) || crowded ls

-- all of this file computes where this is unfolded
unfoldable pub opened : Unit {0}
unfolding at_level level_and levels_from levels_of operator_alts level_body level_rule higher_of level_rules crowded
opened = tt
