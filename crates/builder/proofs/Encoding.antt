-- The cells of a part, with others behind them.
use mathlib.Core.List.{List, [], ◌∷◌, ◌++◌, append_assoc}
use mathlib.Core.Path.{◌≡◌, refl, sym, ap, ◌∙◌}
use Prim.Native.Nat.{ℕ, ◌+◌}
use lib.ListN.{length}
use Rattle.base.specs.Tree.{plain, cycle, choice, done, ◌▸◌, nil, alternative, absent, otherwise}
use Rattle.cells.specs.Cells.{selector_cells, absent_cell, act_cells, acts_cells, alts_cells, other_cells}
use Rattle.program.specs.Program.{Selector, Act, Acts, Alts, Other}
use Rattle.resolver.proofs.Appending.{plain-behind, selector-behind}

-- one part, then another that has k behind it
two-parts : (f g : List ℕ → List ℕ) → ((k : List ℕ) → f k ≡ f [] ++ k) → ((k : List ℕ) → g k ≡ g [] ++ k) → (k : List ℕ) → f (g k) ≡ f (g []) ++ k
two-parts f g p q k =
    p (g k) ∙ ap (λ r. f [] ++ r) (q k) ∙ sym (append_assoc (f []) (g []) k) ∙ ap (λ r. r ++ k) (sym (p (g [])))

-- labels and actions
labels-then : (ls : List ℕ) (g : List ℕ → List ℕ) → ((k : List ℕ) → g k ≡ g [] ++ k) → (k : List ℕ) → (ls ++ g k) ≡ (ls ++ g []) ++ k
labels-then ls g q k = ap (λ r. ls ++ r) (q k) ∙ sym (append_assoc ls (g []) k)

mutual
  unfolding act_cells

  pub act-cells : (a : Act) (k : List ℕ) → act_cells a k ≡ act_cells a [] ++ k
  act-cells (plain p) k = plain-behind p k
  act-cells (cycle b) k = ap (λ r. 2 ∷ r) (acts-cells b k)
  act-cells (choice s q o) k =
      two-parts (λ r. selector_cells s r) (λ r. alts_cells q (other_cells o (absent_cell s) r)) (λ r. selector-behind s r)
      (two-parts (λ r. alts_cells q r) (λ r. other_cells o (absent_cell s) r) (λ r. alts-cells q r) (λ r. other-cells o (absent_cell s) r)) k

  pub acts-cells : (b : Acts) (k : List ℕ) → acts_cells b k ≡ acts_cells b [] ++ k
  acts-cells done k = refl
  acts-cells (a ▸ q) k = two-parts (λ r. act_cells a r) (λ r. acts_cells q r) (λ r. act-cells a r) (λ r. acts-cells q r) k

  pub alts-cells : (q : Alts) (k : List ℕ) → alts_cells q k ≡ alts_cells q [] ++ k
  alts-cells nil k = refl
  alts-cells (alternative ls b q) k =
      ap (λ r. (64 + length ls) ∷ r) (labels-then ls (λ r. acts_cells b (alts_cells q r)) (two-parts (λ r. acts_cells b r) (λ r. alts_cells q r) (λ r. acts-cells b r) (λ r. alts-cells q r)) k)

  pub other-cells : (o : Other) (c : ℕ) (k : List ℕ) → other_cells o c k ≡ other_cells o c [] ++ k
  other-cells absent c k = refl
  other-cells (otherwise b) c k = ap (λ r. 13 ∷ r) (acts-cells b k)

-- what the parts of an action append one after the other

pub more-cells : (a : Act) (b : Acts) → acts_cells (a ▸ b) [] ≡ act_cells a [] ++ acts_cells b []
unfolding act_cells
more-cells a b = act-cells a (acts_cells b [])

pub choice-cells : (s : Selector) (q : Alts) (o : Other) → act_cells (choice s q o) [] ≡ selector_cells s [] ++ alts_cells q (other_cells o (absent_cell s) [])
unfolding act_cells
choice-cells s q o = selector-behind s (alts_cells q (other_cells o (absent_cell s) []))

pub alternative-cells : (ls : List ℕ) (b : Acts) (q : Alts) (k : List ℕ) → alts_cells (alternative ls b q) k ≡ ((64 + length ls) ∷ (ls ++ acts_cells b [])) ++ alts_cells q k
unfolding act_cells
alternative-cells ls b q k = ap (λ r. (64 + length ls) ∷ r) (ap (λ r. ls ++ r) (acts-cells b (alts_cells q k)) ∙ sym (append_assoc ls (acts_cells b []) (alts_cells q k)))
