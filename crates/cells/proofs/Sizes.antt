-- "never longer than the table but for the end of each choice rule": how many cells a program has.
use mathlib.Core.List.{List, [], ◌∷◌}
use Prim.Native.Nat.{ℕ, ◌+◌, ◌*◌, ◌≤◌}
use lib.ListN.{length, length-append}
use native.Mathlib.Omega.{arith}
use Rattle.base.specs.Tree.{plain, cycle, choice, done, ◌▸◌, nil, alternative, absent, otherwise}
use Rattle.cells.specs.Cells.{plain_cells, selector_cells, absent_cell, act_cells, acts_cells, alts_cells, other_cells, rules_cells}
use Rattle.program.specs.Program.{Plain, match, any, emit, error, exit, call, back, give, update, update_with, Selector, by_token, by_rule, by_operation, by_operation_with, Act, Acts, Alts, Other, Rule}
use Rattle.program.specs.Table.{size_plain, size_selector, size_absent, count_labels, size, sizes, size_alts, size_other, size_rule, size_rules}

plain-short : (p : Plain) (k : List ℕ) → length (plain_cells p k) ≤ size_plain p + length k
unfolding plain_cells size_plain
plain-short (match t) k = omega arith
plain-short any k = omega arith
plain-short (emit t) k = omega arith
plain-short (error t) k = omega arith
plain-short exit k = omega arith
plain-short (call r) k = omega arith
plain-short back k = omega arith
plain-short (give v) k = omega arith
plain-short (update op) k = omega arith
plain-short (update_with op v) k = omega arith

selector-short : (s : Selector) (k : List ℕ) → length (selector_cells s k) ≤ 1 + (size_selector s + length k)
unfolding selector_cells size_selector
selector-short by_token k = omega arith
selector-short (by_rule r) k = omega arith
selector-short (by_operation op) k = omega arith
selector-short (by_operation_with op v) k = omega arith

absent-short : (s : Selector) → 1 ≤ size_absent s
unfolding size_absent
absent-short by_token = omega arith
absent-short (by_rule r) = omega arith
absent-short (by_operation op) = omega arith
absent-short (by_operation_with op v) = omega arith

mutual
  unfolding act_cells size count_labels

  act-short : (a : Act) (k : List ℕ) → length (act_cells a k) ≤ size a + length k
  act-short (plain p) k = plain-short p k
  act-short (cycle b) k = let h = acts-short b k in omega (arith, h)
  act-short (choice s q o) k =
      let h₁ = selector-short s (alts_cells q (other_cells o (absent_cell s) k)) in
      let h₂ = alts-short q (other_cells o (absent_cell s) k) in
      let h₃ = other-short o (absent_cell s) (size_absent s) k (absent-short s) in
      omega (arith, h₁, h₂, h₃)

  acts-short : (q : Acts) (k : List ℕ) → length (acts_cells q k) ≤ sizes q + (1 + length k)
  acts-short done k = omega arith
  acts-short (a ▸ q) k =
      let h₁ = act-short a (acts_cells q k) in
      let h₂ = acts-short q k in
      omega (arith, h₁, h₂)

  alts-short : (q : Alts) (k : List ℕ) → length (alts_cells q k) ≤ size_alts q + (2 * count_labels q + length k)
  alts-short nil k = omega arith
  alts-short (alternative ls b q) k =
      let e = length-append ls (acts_cells b (alts_cells q k)) in
      let h₁ = acts-short b (alts_cells q k) in
      let h₂ = alts-short q k in
      omega (arith, e, h₁, h₂)

  other-short : (o : Other) (c n : ℕ) (k : List ℕ) → 1 ≤ n → length (other_cells o c k) ≤ size_other o n + (2 + length k)
  other-short absent c n k h = omega (arith, h)
  other-short (otherwise b) c n k h = let h₁ = acts-short b k in omega (arith, h₁)

-- "a program whose table fits 4,096 words has at most 4,096 + 128 cells"
pub rules-short : (prog : List Rule) → length (rules_cells prog) ≤ size_rules prog + length prog
unfolding rules_cells size_rules size_rule
rules-short [] = omega arith
rules-short (r ∷ rs) =
    let h₁ = acts-short r.body (rules_cells rs) in
    let h₂ = rules-short rs in
    omega (arith, h₁, h₂)
