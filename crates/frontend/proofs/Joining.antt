-- Rules with others behind them: their cells, and where each begins.
use mathlib.Core.List.{List, [], ◌∷◌, ◌++◌}
use mathlib.Core.Path.{◌≡◌, refl, ap, ◌∙◌}
use Prim.Native.Nat.{ℕ, zero, suc, ◌+◌, ◌<◌}
use lib.ListN.{length, length-append}
use native.Mathlib.Omega.{arith}
use Rattle.cells.specs.Cells.{acts_cells, rules_cells, cells_start}
use Rattle.program.specs.Program.{Rule}
use Rattle.verdict.proofs.Laid.{acts-append}

pub rules-append : (xs ys : List Rule) → rules_cells (xs ++ ys) ≡ rules_cells xs ++ rules_cells ys
unfolding rules_cells
rules-append [] ys = refl
rules-append (x ∷ xs) ys = ap (λ k. acts_cells x.body k) (rules-append xs ys) ∙ acts-append x.body (rules_cells xs) (rules_cells ys)

pub start-before : (i : ℕ) (xs ys : List Rule) (r : ℕ) → r < length xs → cells_start i (xs ++ ys) r ≡ cells_start i xs r
unfolding cells_start
start-before i [] ys r l = absurd (omega arith)
start-before i (x ∷ xs) ys zero l = refl
start-before i (x ∷ xs) ys (suc r) l = start-before (i + length (acts_cells x.body [])) xs ys r (omega arith)

-- the cells of one rule and of those behind it
rule-length : (x : Rule) (xs : List Rule) → length (rules_cells (x ∷ xs)) ≡ length (acts_cells x.body []) + length (rules_cells xs)
unfolding rules_cells
rule-length x xs = ap (λ (k : List ℕ). length k) (acts-append x.body [] (rules_cells xs)) ∙ length-append (acts_cells x.body []) (rules_cells xs)

none-behind : (i : ℕ) → i + length (rules_cells []) ≡ i
unfolding rules_cells
none-behind i = omega arith

pub start-behind : (i : ℕ) (xs ys : List Rule) (r : ℕ) → cells_start i (xs ++ ys) (length xs + r) ≡ cells_start (i + length (rules_cells xs)) ys r
unfolding cells_start
start-behind i [] ys r =
    let z : i + length (rules_cells []) ≡ i = none-behind i in
    let e : 0 + r ≡ r = omega arith in
    rw (z, e) refl
start-behind i (x ∷ xs) ys r =
    let e : (i + length (acts_cells x.body [])) + length (rules_cells xs) ≡ i + length (rules_cells (x ∷ xs)) = omega (arith, rule-length x xs) in
    let n : suc (length xs) + r ≡ suc (length xs + r) = omega arith in
    ap (λ k. cells_start i (x ∷ (xs ++ ys)) k) n ∙ start-behind (i + length (acts_cells x.body [])) xs ys r ∙ ap (λ k. cells_start k ys r) e
