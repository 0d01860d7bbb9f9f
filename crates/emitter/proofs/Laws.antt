-- Laws of the definitions of specs/. Assumes nothing.
use Prim.Native.Nat.{ℕ, zero, suc, ◌+◌, ◌*◌, ◌/◌, ◌%◌, ◌<◌, ◌≤◌}
use mathlib.Core.Path.{◌≡◌, refl, sym, ap, ◌∙◌}
use mathlib.Core.Bool.{Bool, true, false, cond}
use mathlib.Core.List.{List, [], ◌∷◌, ◌++◌}
use native.Mathlib.Omega.{arith}
use native.Mathlib.Nat.{add-zero, mod-eq_of_lt}
use lib.ListN.{length, get_or, set, take, drop, length-set, drop_of_length-le}
use lib.Seq.{drop-cons}
use native.Mathlib.Numerals.{add-one}
use lib.Dec.{eqb, ltb}
use borrow.Author.Tests.{eq-eqb, ne_eqb, lt-ltb, le-ltb}
use Rattle.program.specs.Table.{place}
use Rattle.chains.specs.Chain.{placed}
use Rattle.emitter.specs.Words.{words, set_word, puts, cut}
use Rattle.emitter.specs.Heads.{labels_in, labels_at, plain_of, sel_of, firsts, called, called_by, Few}
use Rattle.emitter.specs.declared.Item.{Item}

length-cond : (b : Bool) (s t : List ℕ) → length t ≡ length s → length (cond b t s) ≡ length s
length-cond true s t h = h
length-cond false s t h = refl

pub length-set_word : (s : List ℕ) (i x : ℕ) → length (set_word s i x) ≡ length s
unfolding set_word
length-set_word s i x = length-cond (ltb i (words s)) s (set (set s (2 * i) (x / 256)) (2 * i + 1) (x % 256)) (simp length-set)

-- a word inside
pub set-in : (s : List ℕ) (i x : ℕ) → i < words s → set_word s i x ≡ set (set s (2 * i) (x / 256)) (2 * i + 1) (x % 256)
unfolding set_word
set-in s i x h = simp (lt-ltb i (words s) h)

pub set_out : (s : List ℕ) (i x : ℕ) → words s ≤ i → set_word s i x ≡ s
unfolding set_word
set_out s i x h = simp (le-ltb i (words s) h)

pub cut_small : (x : ℕ) → x < 65536 → cut x ≡ x
unfolding cut
cut_small x h = mod-eq_of_lt h

pub length-puts : (s : List ℕ) (i : ℕ) (ws : List ℕ) → length (puts s i ws) ≡ length s
unfolding puts
length-puts s i [] = refl
length-puts s i (w ∷ ws) = length-puts (set_word s i w) (i + 1) ws ∙ length-set_word s i w

pub puts-append : (s : List ℕ) (i : ℕ) (xs ys : List ℕ) → puts s i (xs ++ ys) ≡ puts (puts s i xs) (i + length xs) ys
unfolding puts
puts-append s i [] ys = ap (λ (j : ℕ). puts s j ys) (sym (add-zero i))
puts-append s i (w ∷ xs) ys = puts-append (set_word s i w) (i + 1) xs ys ∙ ap (λ (j : ℕ). puts (puts (set_word s i w) (i + 1) xs) j ys) (omega arith)

-- two writes, one behind the otherwise
pub puts_then : (s t u : List ℕ) (i j : ℕ) (xs ys : List ℕ) → t ≡ puts s i xs → j ≡ i + length xs → u ≡ puts t j ys → u ≡ puts s i (xs ++ ys)
puts_then s t u i j xs ys p q r = cc (puts-append s i xs ys)

pub take-firsts : (n a b d : ℕ) → n ≤ 3 → take n (a ∷ b ∷ d ∷ []) ≡ firsts n a b d
unfolding firsts
take-firsts zero a b d h = refl
take-firsts (suc zero) a b d h = refl
take-firsts (suc (suc zero)) a b d h = refl
take-firsts (suc (suc (suc zero))) a b d h = refl
take-firsts (suc (suc (suc (suc n)))) a b d h = absurd (omega arith)

pub puts-word : (s : List ℕ) (i w : ℕ) → set_word s i w ≡ puts s i (w ∷ [])
unfolding puts
puts-word s i w = refl

-- one word more of a row
pub puts-next : (s ws : List ℕ) (at i : ℕ) → i < length ws → puts (set_word s (at + i) (get_or ws i 0)) (at + (i + 1)) (drop (i + 1) ws) ≡ puts s (at + i) (drop i ws)
unfolding puts
puts-next s ws at i h =
    let e : at + (i + 1) ≡ at + i + 1 = omega arith in
    let d : drop i ws ≡ get_or ws i 0 ∷ drop (i + 1) ws = drop-cons ws i 0 h ∙ ap (λ (j : ℕ). get_or ws i 0 ∷ drop j ws) (sym (add-one i)) in
    ap (λ (j : ℕ). puts (set_word s (at + i) (get_or ws i 0)) j (drop (i + 1) ws)) e ∙ sym (ap (λ (v : List ℕ). puts s (at + i) v) d)

pub puts-last : (s ws : List ℕ) (at i : ℕ) → length ws ≤ i → puts s (at + i) (drop i ws) ≡ s
unfolding puts
puts-last s ws at i h = rw (drop_of_length-le ws {i = i} h) refl

-- what holds of every plain action
few-cond : (b : Bool) (u v : Item) → Few u → Few v → Few (cond b u v)
few-cond true u v p q = p
few-cond false u v p q = q

pub few : (k v t : ℕ) → Few (plain_of k v t)
unfolding plain_of firsts
few k v t =
    let o : (a : ℕ) → Few (record { cells = 1; count = 1; a = a; b = 0; d = 0 }) = λ a. record { cells = omega arith; some-cells = omega arith; count = refl; small = omega arith } in
    let w : (a b : ℕ) → Few (record { cells = 2; count = 2; a = a; b = b; d = 0 }) = λ a b. record { cells = omega arith; some-cells = omega arith; count = refl; small = omega arith } in
    let h : (a b d : ℕ) → Few (record { cells = 2; count = 3; a = a; b = b; d = d }) = λ a b d. record { cells = omega arith; some-cells = omega arith; count = refl; small = omega arith } in
    few-cond (ltb k 256) _ _
    (few-cond (eqb k 4) _ _ (o k) (few-cond (eqb k 9) _ _ (o k) (few-cond (eqb k 8) _ _ (w k t) (few-cond (eqb k 10) _ _ (h k v 9) (w k v)))))
    (few-cond (ltb k 512) _ _ (o k) (h 13 v k))

pub few-sel : (k v t : ℕ) → Few (sel_of k v t)
unfolding sel_of firsts
few-sel k v t =
    few-cond (eqb k 7) _ _ (record { cells = omega arith; some-cells = omega arith; count = refl; small = omega arith })
    (few-cond (eqb k 11) _ _ (record { cells = omega arith; some-cells = omega arith; count = refl; small = omega arith })
    (few-cond (ltb k 1024) _ _ (record { cells = omega arith; some-cells = omega arith; count = refl; small = omega arith }) (record { cells = omega arith; some-cells = omega arith; count = refl; small = omega arith })))

pub set_past : (s : List ℕ) (i x : ℕ) → length s ≤ i → set s i x ≡ s
set_past [] i x h = refl
set_past (y ∷ s) zero x h = absurd (omega arith)
set_past (y ∷ s) (suc i) x h = ap (λ (t : List ℕ). y ∷ t) (set_past s i x (omega arith))

-- the labels at a cell, inside and not
pub at_in : (cs : List ℕ) (p : ℕ) → p + labels_in (get_or cs p 0) < length cs → labels_at cs p ≡ labels_in (get_or cs p 0)
unfolding labels_at
at_in cs p h = simp (lt-ltb (p + labels_in (get_or cs p 0)) (length cs) h)

pub at_out : (cs : List ℕ) (p : ℕ) → length cs ≤ p + labels_in (get_or cs p 0) → labels_at cs p ≡ 0
unfolding labels_at
at_out cs p h = simp (le-ltb (p + labels_in (get_or cs p 0)) (length cs) h)

-- where a cell is not 0 there is one
pub cell-there : (cs : List ℕ) (p : ℕ) → (get_or cs p 0 ≡ 0 → ⊥) → p < length cs
cell-there [] p h = absurd (h refl)
cell-there (c ∷ cs) zero h = omega arith
cell-there (c ∷ cs) (suc p) h = omega (arith, cell-there cs p h)

-- the slots after an item
pub called-open : (slots : List ℕ) (r place : ℕ) → get_or slots r 0 < placed → called slots r place ≡ set slots r place
unfolding called
called-open slots r place h = ap (λ (b : Bool). cond b (set slots r place) slots) (lt-ltb (get_or slots r 0) placed h)

pub called-placed : (slots : List ℕ) (r place : ℕ) → placed ≤ get_or slots r 0 → called slots r place ≡ slots
unfolding called
called-placed slots r place h = ap (λ (b : Bool). cond b (set slots r place) slots) (le-ltb (get_or slots r 0) placed h)

pub by_call : (k c : ℕ) (slots : List ℕ) (r place : ℕ) → k ≡ c → called_by k c slots r place ≡ called slots r place
by_call k c slots r place h = ap (λ (b : Bool). cond b (called slots r place) slots) (eq-eqb k c h)

pub not-by-call : (k c : ℕ) (slots : List ℕ) (r place : ℕ) → (k ≡ c → ⊥) → called_by k c slots r place ≡ slots
not-by-call k c slots r place h = ap (λ (b : Bool). cond b (called slots r place) slots) (ne_eqb k c h)
