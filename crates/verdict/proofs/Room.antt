-- There is room for the facts: each is another `>>` of the program, two cells.
use mathlib.Core.Path.{◌≡◌, refl, ap}
use mathlib.Core.Logic.{inl, inr}
use mathlib.Core.Bool.{true, false, ◌&&◌}
use mathlib.Core.List.Memᴰ
use mathlib.Core.List.{List, [], ◌∷◌, ◌++◌, Memᴰ}
use native.Mathlib.Omega.{arith}
use Prim.Native.Nat.{ℕ, zero, suc, ◌+◌, ◌*◌, ◌<◌, ◌≤◌}
use lib.Dec.{eqb}
use lib.ListN.{length, get_or, length-append}
use borrow.Author.Tests.{eqb-true}
use Rattle.base.specs.Bools.{never, or, and, split}
use Rattle.base.specs.Tree.{plain, cycle, choice, done, ◌▸◌, nil, alternative, absent, otherwise}
use Rattle.program.specs.Program.{Plain, match, any, emit, error, exit, call, back, give, update, update_with, Selector, by_token, by_rule, by_operation, by_operation_with, Act, Acts, Alts, Other, Rule, rule_of, body_of}
use Rattle.cells.specs.Cells.{plain_cells, selector_cells, absent_cell, act_cells, acts_cells, alts_cells, other_cells, rules_cells}
use Rattle.finishing.specs.Finishing as paths
use Rattle.finishing.specs.Finishing.{Gives}
use Rattle.finishing.specs.Test.{Fact, giving, same, within, known, values_plain, values, values_all, values_some, values_other, givings}
use Rattle.finishing.proofs.Rounds.{missing, cons-missing, missing-le, giving-in, values_in, known-closed}
use Rattle.finishing.proofs.Paths.{completes, meets-give}
use Rattle.verdict.specs.Told.{True, Apart, Holds}
use Rattle.verdict.specs.declared.Rules.{Rules}

plain-room : (p : Plain) (k : List ℕ) → 2 * length (values_plain p) + length k ≤ length (plain_cells p k)
unfolding plain_cells values_plain
plain-room (match t) k = omega arith
plain-room any k = omega arith
plain-room (emit t) k = omega arith
plain-room (error t) k = omega arith
plain-room exit k = omega arith
plain-room (call r) k = omega arith
plain-room back k = omega arith
plain-room (give v) k = omega arith
plain-room (update op) k = omega arith
plain-room (update_with op v) k = omega arith

selector-room : (s : Selector) (k : List ℕ) → length k ≤ length (selector_cells s k)
unfolding selector_cells
selector-room by_token k = omega arith
selector-room (by_rule r) k = omega arith
selector-room (by_operation op) k = omega arith
selector-room (by_operation_with op v) k = omega arith

mutual
  unfolding act_cells values

  act-room : (a : Act) (k : List ℕ) → 2 * length (values a) + length k ≤ length (act_cells a k)
  act-room (plain p) k = plain-room p k
  act-room (cycle b) k = let h = acts-room b k in omega (arith, h)
  act-room (choice s q o) k =
      let h₁ = selector-room s (alts_cells q (other_cells o (absent_cell s) k)) in
      let h₂ = alts-room q (other_cells o (absent_cell s) k) in
      let h₃ = other-room o (absent_cell s) k in
      omega (arith, h₁, h₂, h₃, length-append (values_some q) (values_other o))

  acts-room : (q : Acts) (k : List ℕ) → 2 * length (values_all q) + (1 + length k) ≤ length (acts_cells q k)
  acts-room done k = omega arith
  acts-room (a ▸ q) k =
      let h₁ = act-room a (acts_cells q k) in
      let h₂ = acts-room q k in
      omega (arith, h₁, h₂, length-append (values a) (values_all q))

  alts-room : (q : Alts) (k : List ℕ) → 2 * length (values_some q) + length k ≤ length (alts_cells q k)
  alts-room nil k = omega arith
  alts-room (alternative ls b q) k =
      let h₁ = acts-room b (alts_cells q k) in
      let h₂ = alts-room q k in
      omega (arith, h₁, h₂, length-append ls (acts_cells b (alts_cells q k)), length-append (values_all b) (values_some q))

  other-room : (o : Other) (c : ℕ) (k : List ℕ) → 2 * length (values_other o) + length k ≤ length (other_cells o c k)
  other-room absent c k = omega arith
  other-room (otherwise b) c k = let h = acts-room b k in omega (arith, h)

-- the `>>` of all rules, the first of them rule i
unfoldable returned : ℕ → List Rule → List Fact
returned i [] = []
returned i (b ∷ bs) = givings i (values_all b.body) ++ returned (suc i) bs

givings-length : (r : ℕ) (vs : List ℕ) → length (givings r vs) ≡ length vs
unfolding givings
givings-length r [] = refl
givings-length r (v ∷ vs) = ap suc (givings-length r vs)

rules-room : (i : ℕ) (bs : List Rule) → 2 * length (returned i bs) + length bs ≤ length (rules_cells bs)
unfolding returned rules_cells
rules-room i [] = omega arith
rules-room i (b ∷ bs) =
    let h₁ = acts-room b.body (rules_cells bs) in
    let h₂ = rules-room (suc i) bs in
    omega (arith, h₁, h₂, length-append (givings i (values_all b.body)) (returned (suc i) bs), givings-length i (values_all b.body))

returned-in : (i : ℕ) (bs : List Rule) (r v : ℕ) → r < length bs → Memᴰ v (values_all (get_or bs r (record { valued = false; body = done })).body) → Memᴰ (giving (i + r) v) (returned i bs)
unfolding returned
returned-in i [] r v l m = absurd (omega arith)
returned-in i (b ∷ bs) zero v l m =
    let e : i + 0 ≡ i = omega arith in
    rw e (Memᴰ.append_left (returned (suc i) bs) (giving-in i v m))
returned-in i (b ∷ bs) (suc r) v l m =
    let e : i + suc r ≡ suc i + r = omega arith in
    rw e (Memᴰ.append_right (givings i (values_all b.body)) (returned-in (suc i) bs r v (omega arith) m))

gives-in : (prog : List Rule) (r v : ℕ) → Gives prog r v → Memᴰ (giving r v) (returned 0 prog) × (0 < length prog)
unfolding body_of rule_of
gives-in prog r v (paths.gives l p) =
    let m = values_in (known prog) v (body_of prog r) (completes prog (known prog) (known-closed prog) p meets-give) in
    let e : 0 + r ≡ r = omega arith in
    (rw e at (returned-in 0 prog r v l m), omega arith)

-- the facts of a row
unfoldable row : List ℕ → ℕ → List Fact
row facts zero = []
row facts (suc m) = giving (get_or facts (2 * m) 0) (get_or facts (2 * m + 1) 0) ∷ row facts m

row_within : (facts : List ℕ) (m r v : ℕ) → within (row facts m) (giving r v) ≡ true → (i : ℕ) × (i < m) × (get_or facts (2 * i) 0 ≡ r) × (get_or facts (2 * i + 1) 0 ≡ v)
unfolding row within same
row_within facts zero r v e = never e
row_within facts (suc m) r v e = elim (or (eqb (get_or facts (2 * m) 0) r && eqb (get_or facts (2 * m + 1) 0) v) (within (row facts m) (giving r v)) e) [
  | inl x ↦
      let y = and (eqb (get_or facts (2 * m) 0) r) (eqb (get_or facts (2 * m + 1) 0) v) x in
      (m, omega arith, eqb-true (get_or facts (2 * m) 0) r y.0, eqb-true (get_or facts (2 * m + 1) 0) v y.1)
  | inr x ↦ let y = row_within facts m r v x in (y.0, omega (arith, y.1), y.2, y.3)
]

-- facts that differ, all of a list, are no more than it has
counted : (facts : List ℕ) (fs : List Fact) (m : ℕ) → Apart facts m → ((i : ℕ) → i < m → Memᴰ (giving (get_or facts (2 * i) 0) (get_or facts (2 * i + 1) 0)) fs) → m + missing fs (row facts m) ≤ length fs
unfolding row
counted facts fs zero a h = omega (arith, missing-le fs [])
counted facts fs (suc m) a h =
    let r = get_or facts (2 * m) 0 in
    let v = get_or facts (2 * m + 1) 0 in
    let n : within (row facts m) (giving r v) ≡ false = split (within (row facts m) (giving r v)) (λ t. let x = row_within facts m r v t in absurd (a.differ x.0 m x.1 (omega arith) x.2 x.3)) (λ t. t) in
    let ih = counted facts fs m (record { differ = λ i j l b. a.differ i j l (omega arith) }) (λ i l. h i (omega arith)) in
    omega (arith, ih, cons-missing fs (row facts m) (h m (omega arith)) n)

pub room : (cells starts : List ℕ) (n : ℕ) (prog : List Rule) (ps : Rules) (facts : List ℕ) (m : ℕ) → Holds cells starts n prog → True prog ps facts m → Apart facts m → 2 * m + 1 < 4224
room cells starts n prog ps facts m h t a = go m refl
  where
    le : m ≤ length (returned 0 prog)
    le = omega (arith, counted facts (returned 0 prog) m a (λ i l. (gives-in prog (get_or facts (2 * i) 0) (get_or facts (2 * i + 1) 0) (t.returns i l)).0))

    go : (k : ℕ) → k ≡ m → 2 * m + 1 < 4224
    go zero e = omega arith
    go (suc k) e =
        let x = (gives-in prog (get_or facts (2 * 0) 0) (get_or facts (2 * 0 + 1) 0) (t.returns 0 (omega arith))).1 in
        omega (arith, x, le, rules-room 0 prog, h.short, ap length h.its, length-append (rules_cells prog) h.rest)
