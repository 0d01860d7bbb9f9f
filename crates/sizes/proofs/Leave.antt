-- The scan: what is left of a list of actions, by the open lists. Assumes nothing.
use Prim.Native.Nat.{ℕ, zero, suc, ◌+◌, ◌*◌, ◌-◌, ◌<◌, ◌≤◌}
use mathlib.Core.Path.{◌≡◌, refl, sym, ap, ◌∙◌, subst}
use mathlib.Core.Bool.{Bool, true, false, cond, ◌&&◌}
use mathlib.Core.Logic.{◌⊎◌, inl, inr}
use mathlib.Core.List.{List, [], ◌∷◌}
use native.Mathlib.Omega.{arith}
use lib.ListN.{length, get_or, get_or-eq_default}
use lib.Dec.{eqb, ltb, leb}
use borrow.Author.Tests.{ne_eqb, lt-ltb, le-ltb, ltb-true, ltb-false, leb-true}
use Rattle.base.proofs.Laws.{lt-or-le}
use Rattle.base.specs.Bools.{and}
use Rattle.program.specs.Program.{Selector, by_token, by_rule, by_operation, by_operation_with, Acts, Alts, Other}
use Rattle.program.specs.Table.{size_plain, size_selector, size_absent, count_labels, sizes, size_alts, size_other}
use Rattle.cells.specs.Cells.{absent_cell}
use Rattle.emitter.specs.Stands.{sel_token, sel_rule, sel_op, sel_op_with, is_match, is_any, is_emit, is_error, is_exit, is_called, is_back, is_give, is_update, is_update_with, is_plain, is_cycle, is_a_choice, IsAlts, is_nil, is_alt, IsOther, is_stop, is_other, IsAll, is_done, is_cons}
use Rattle.sizes.specs.Heads.{cells_table, words_table, cells_of, words_of, open_after}
use Rattle.emitter.proofs.Leave.{all_in, alts-in, other_in}

-- from p, with d lists open, m words are left up to e
pub data Left (cs : List ℕ) (n e : ℕ) : ℕ → ℕ → ℕ → Type 0 where
  left-none : {p d m : ℕ} → p ≡ e → d ≡ 0 → m ≡ 0 → Left cs n e p d m
  left-all : {p e' d d' m m' : ℕ} {q : Acts} → IsAll cs n p e' q → Left cs n e e' d' m' → d ≡ d' + 1 → m ≡ sizes q + m' → Left cs n e p d m
  left-rest : {p f e' d m m' : ℕ} {s : Selector} {q : Alts} {o : Other} → IsAlts cs n p f q → IsOther cs n s f e' o → Left cs n e e' d m' → 0 < d → m ≡ size_alts q + (2 * count_labels q + (size_other o (size_absent s) + m')) → Left cs n e p d m

alts-at : {cs : List ℕ} {n p p' f : ℕ} {q : Alts} → IsAlts cs n p f q → p ≡ p' → IsAlts cs n p' f q
alts-at {cs} {n} {p} {p'} {f} {q} h k = subst (λ (i : ℕ). IsAlts cs n i f q) k h

left_at : {cs : List ℕ} {n e p p' d d' m : ℕ} → Left cs n e p d m → p ≡ p' → d ≡ d' → Left cs n e p' d' m
left_at {cs} {n} {e} {p} {p'} {d} {d'} {m} (left-none a b c) h k = left-none {p = p'} {d = d'} {m = m} (omega arith) (omega arith) c
left_at {cs} {n} {e} {p} {p'} {d} {d'} {m} (left-all {e' = e'} {d' = f} {q = q} a l b c) h k = left-all {d = d'} {d' = f} (subst (λ (i : ℕ). IsAll cs n i e' q) h a) l (omega arith) c
left_at {cs} {n} {e} {p} {p'} {d} {d'} {m} (left-rest {e' = e'} {m' = m'} {s = s} {q = q} {o = o} a b l g c) h k = left-rest {d = d'} {s = s} (alts-at a h) b (left_at l refl k) (omega arith) c

pub record Kind (k d c w d' : ℕ) : Type 0 where
  pub cells : cells_of k ≡ c
  pub words : words_of k ≡ w
  pub opens : open_after k d ≡ d'

pub record Stepped (cs : List ℕ) (n e p d m k : ℕ) : Type 0 where
  pub m' : ℕ
  pub left : Left cs n e (p + cells_of k) (open_after k d) m'
  pub sum : m ≡ words_of k + m'
  pub inside : p + cells_of k ≤ length cs
  pub more : 0 < cells_of k
  pub most : words_of k ≤ 4 * cells_of k
  pub opens : open_after k d ≤ d + 1

stepped : {cs : List ℕ} {n e p q d m : ℕ} (k c w d' m' : ℕ) → get_or cs p 0 ≡ k → Kind k d c w d' → Left cs n e q d' m' → q ≡ p + c → m ≡ w + m' → p + c ≤ length cs → 0 < c → w ≤ 4 * c → d' ≤ d + 1
    → Stepped cs n e p d m (get_or cs p 0)
stepped {cs} {n} {e} {p} {q} {d} {m} k c w d' m' t f l g s i o u v =
    let x : cells_of (get_or cs p 0) ≡ c = ap cells_of t ∙ f.cells in
    let y : words_of (get_or cs p 0) ≡ w = ap words_of t ∙ f.words in
    let z : open_after (get_or cs p 0) d ≡ d' = ap (λ (j : ℕ). open_after j d) t ∙ f.opens in
    record { m' = m'; left = left_at l (omega arith) (sym z); sum = omega arith; inside = omega arith; more = omega arith; most = omega arith; opens = omega arith }

op-kind : (k d : ℕ) → 256 ≤ k → k < 512 → Kind k d 1 1 d
unfolding cells_of words_of open_after
op-kind k d f u =
    let a : ltb k 15 ≡ false = le-ltb k 15 (omega arith) in
    let b : ltb k 256 ≡ false = le-ltb k 256 (omega arith) in
    let s : ltb k 64 ≡ false = le-ltb k 64 (omega arith) in
    record {
      cells = simp (a, s, b, lt-ltb k 512 u);
      words = simp (a, s, b, lt-ltb k 512 u);
      opens = simp (ne_eqb k 0 (λ h. omega arith), ne_eqb k 2 (λ h. omega arith), ne_eqb k 13 (λ h. omega arith), s, b);
    }

op_with-kind : (k d : ℕ) → 512 ≤ k → k < 768 → Kind k d 2 3 d
unfolding cells_of words_of open_after
op_with-kind k d f u =
    let a : ltb k 15 ≡ false = le-ltb k 15 (omega arith) in
    let b : ltb k 256 ≡ false = le-ltb k 256 (omega arith) in
    let s : ltb k 64 ≡ false = le-ltb k 64 (omega arith) in
    record {
      cells = simp (a, s, b, le-ltb k 512 f, lt-ltb k 768 u);
      words = simp (a, s, b, le-ltb k 512 f, lt-ltb k 768 u);
      opens = simp (ne_eqb k 0 (λ h. omega arith), ne_eqb k 2 (λ h. omega arith), ne_eqb k 13 (λ h. omega arith), s, b);
    }

choose-kind : (k d : ℕ) → 768 ≤ k → k < 1024 → Kind k d 1 4 d
unfolding cells_of words_of open_after
choose-kind k d f u =
    let a : ltb k 15 ≡ false = le-ltb k 15 (omega arith) in
    let b : ltb k 256 ≡ false = le-ltb k 256 (omega arith) in
    let s : ltb k 64 ≡ false = le-ltb k 64 (omega arith) in
    let g : ltb k 512 ≡ false = le-ltb k 512 (omega arith) in
    record {
      cells = simp (a, s, b, g, le-ltb k 768 f, lt-ltb k 1024 u);
      words = simp (a, s, b, g, le-ltb k 768 f, lt-ltb k 1024 u);
      opens = simp (ne_eqb k 0 (λ h. omega arith), ne_eqb k 2 (λ h. omega arith), ne_eqb k 13 (λ h. omega arith), s, b);
    }

choose_with-kind : (k d : ℕ) → 1024 ≤ k → k < 1280 → Kind k d 2 6 d
unfolding cells_of words_of open_after
choose_with-kind k d f u =
    let a : ltb k 15 ≡ false = le-ltb k 15 (omega arith) in
    let b : ltb k 256 ≡ false = le-ltb k 256 (omega arith) in
    let s : ltb k 64 ≡ false = le-ltb k 64 (omega arith) in
    let g : ltb k 512 ≡ false = le-ltb k 512 (omega arith) in
    let i : ltb k 768 ≡ false = le-ltb k 768 (omega arith) in
    record {
      cells = simp (a, s, b, g, i, le-ltb k 1024 f);
      words = simp (a, s, b, g, i, le-ltb k 1024 f);
      opens = simp (ne_eqb k 0 (λ h. omega arith), ne_eqb k 2 (λ h. omega arith), ne_eqb k 13 (λ h. omega arith), s, b);
    }

alt-kind : (j d : ℕ) → 0 < j → j < 192 → Kind (64 + j) d (1 + j) (2 * (1 + j)) (d + 1)
unfolding cells_of words_of open_after
alt-kind j d f u =
    let a : ltb (64 + j) 15 ≡ false = le-ltb (64 + j) 15 (omega arith) in
    let b : ltb (64 + j) 256 ≡ true = lt-ltb (64 + j) 256 (omega arith) in
    let s : ltb (64 + j) 64 ≡ false = le-ltb (64 + j) 64 (omega arith) in
    record {
      cells = simp (a, s, b) (omega arith);
      words = simp (a, s, b) (omega arith);
      opens = simp (ne_eqb (64 + j) 0 (λ h. omega arith), ne_eqb (64 + j) 2 (λ h. omega arith), ne_eqb (64 + j) 13 (λ h. omega arith), s, b);
    }

stop-kind : (s : Selector) (d : ℕ) → Kind (absent_cell s) d 1 (size_absent s) d
unfolding cells_of words_of open_after absent_cell size_absent
stop-kind by_token d = record { cells = refl; words = refl; opens = refl }
stop-kind (by_rule r) d = record { cells = refl; words = refl; opens = refl }
stop-kind (by_operation r) d = record { cells = refl; words = refl; opens = refl }
stop-kind (by_operation_with r v) d = record { cells = refl; words = refl; opens = refl }

stop-few : (s : Selector) → size_absent s ≤ 4 * 1
unfolding size_absent
stop-few by_token = omega arith
stop-few (by_rule r) = omega arith
stop-few (by_operation r) = omega arith
stop-few (by_operation_with r v) = omega arith

pub step : {cs : List ℕ} {n e p d m : ℕ} → Left cs n e p d m → 0 < d → Stepped cs n e p d m (get_or cs p 0)
unfolding cells_of words_of open_after size_plain sizes size_selector count_labels
step (left-none h k m) o = absurd (omega arith)
step {d = d} (left-all {d' = d'} {m' = m'} (is_done h l t) r k s) o = stepped 0 1 0 d' m' t (record { cells = refl; words = refl; opens = omega arith }) r h s (omega arith) (omega arith) (omega arith) (omega arith)
step {d = d} (left-all {m' = m'} (is_cons {q = q} (is_plain (is_match h l t v)) b) r k s) o = stepped 3 2 2 d (sizes q + m') t (record { cells = refl; words = refl; opens = refl }) (left-all b r k refl) h (omega arith) (omega arith) (omega arith) (omega arith) (omega arith)
step {d = d} (left-all {m' = m'} (is_cons {q = q} (is_plain (is_any h l t)) b) r k s) o = stepped 4 1 1 d (sizes q + m') t (record { cells = refl; words = refl; opens = refl }) (left-all b r k refl) h (omega arith) (omega arith) (omega arith) (omega arith) (omega arith)
step {d = d} (left-all {m' = m'} (is_cons {q = q} (is_plain (is_emit h l t v)) b) r k s) o = stepped 5 2 2 d (sizes q + m') t (record { cells = refl; words = refl; opens = refl }) (left-all b r k refl) h (omega arith) (omega arith) (omega arith) (omega arith) (omega arith)
step {d = d} (left-all {m' = m'} (is_cons {q = q} (is_plain (is_error h l t v)) b) r k s) o = stepped 6 2 2 d (sizes q + m') t (record { cells = refl; words = refl; opens = refl }) (left-all b r k refl) h (omega arith) (omega arith) (omega arith) (omega arith) (omega arith)
step {d = d} (left-all {m' = m'} (is_cons {q = q} (is_cycle {b = w} h t a) b) r k s) o = stepped 2 1 2 (d + 1) (sizes w + (sizes q + m')) t (record { cells = refl; words = refl; opens = refl }) (left-all a (left-all b r k refl) refl refl) refl (omega arith) (omega arith) (omega arith) (omega arith) (omega arith)
step {d = d} (left-all {m' = m'} (is_cons {q = q} (is_plain (is_exit h l t)) b) r k s) o = stepped 1 1 2 d (sizes q + m') t (record { cells = refl; words = refl; opens = refl }) (left-all b r k refl) h (omega arith) (omega arith) (omega arith) (omega arith) (omega arith)
step {d = d} (left-all {m' = m'} (is_cons {q = q} (is_plain (is_called h l t v u)) b) r k s) o = stepped 8 2 2 d (sizes q + m') t (record { cells = refl; words = refl; opens = refl }) (left-all b r k refl) h (omega arith) (omega arith) (omega arith) (omega arith) (omega arith)
step {d = d} (left-all {m' = m'} (is_cons {q = q} (is_plain (is_back h l t)) b) r k s) o = stepped 9 1 1 d (sizes q + m') t (record { cells = refl; words = refl; opens = refl }) (left-all b r k refl) h (omega arith) (omega arith) (omega arith) (omega arith) (omega arith)
step {d = d} (left-all {m' = m'} (is_cons {q = q} (is_plain (is_give h l t v)) b) r k s) o = stepped 10 2 3 d (sizes q + m') t (record { cells = refl; words = refl; opens = refl }) (left-all b r k refl) h (omega arith) (omega arith) (omega arith) (omega arith) (omega arith)
step {d = d} (left-all {m' = m'} (is_cons {q = q} (is_plain (is_update {op = op} h l t f u)) b) r k s) o = stepped op 1 1 d (sizes q + m') t (op-kind op d f u) (left-all b r k refl) h (omega arith) (omega arith) (omega arith) (omega arith) (omega arith)
step {d = d} (left-all {m' = m'} (is_cons {q = q} (is_plain (is_update_with {op = op} h l t v f u)) b) r k s) o = stepped op 2 3 d (sizes q + m') t (op_with-kind op d f u) (left-all b r k refl) h (omega arith) (omega arith) (omega arith) (omega arith) (omega arith)
step {d = d} (left-all {m' = m'} (is_cons {q = z} (is_a_choice {s = s} {q = q} {o = x} (sel_token h l t) a y g) b) r k j) u =
    let i = alts-in a in let i2 = other_in y in
    stepped 7 1 3 d (size_alts q + (2 * count_labels q + (size_other x (size_absent s) + (sizes z + m')))) t record { cells = refl; words = refl; opens = refl } (left-rest {s = s} a y (left-all b r k refl) u refl) h (omega arith) (omega arith) (omega arith) (omega arith) (omega arith)
step {d = d} (left-all {m' = m'} (is_cons {q = z} (is_a_choice {s = s} {q = q} {o = x} (sel_rule h l t v n) a y g) b) r k j) u =
    let i = alts-in a in let i2 = other_in y in
    stepped 11 2 5 d (size_alts q + (2 * count_labels q + (size_other x (size_absent s) + (sizes z + m')))) t record { cells = refl; words = refl; opens = refl } (left-rest {s = s} a y (left-all b r k refl) u refl) h (omega arith) (omega arith) (omega arith) (omega arith) (omega arith)
step {d = d} (left-all {m' = m'} (is_cons {q = z} (is_a_choice {s = s} {q = q} {o = x} (sel_op {op = op} h l t f v) a y g) b) r k j) u =
    let i = alts-in a in let i2 = other_in y in
    stepped op 1 4 d (size_alts q + (2 * count_labels q + (size_other x (size_absent s) + (sizes z + m')))) t (choose-kind op d f v) (left-rest {s = s} a y (left-all b r k refl) u refl) h (omega arith) (omega arith) (omega arith) (omega arith) (omega arith)
step {d = d} (left-all {m' = m'} (is_cons {q = z} (is_a_choice {s = s} {q = q} {o = x} (sel_op_with {op = op} h l t w f v) a y g) b) r k j) u =
    let i = alts-in a in let i2 = other_in y in
    stepped op 2 6 d (size_alts q + (2 * count_labels q + (size_other x (size_absent s) + (sizes z + m')))) t (choose_with-kind op d f v) (left-rest {s = s} a y (left-all b r k refl) u refl) h (omega arith) (omega arith) (omega arith) (omega arith) (omega arith)
step {cs} {d = d} (left-rest {m' = m'} {s = s} (is_nil c) (is_stop h l t) r g j) u = stepped (absent_cell s) 1 (size_absent s) d m' (ap (λ (i : ℕ). get_or cs i 0) (sym c) ∙ t) (stop-kind s d) r (omega arith) (omega arith) (omega arith) (omega arith) (stop-few s) (omega arith)
step {cs} {d = d} (left-rest {m' = m'} (is_nil c) (is_other {b = b} h t a) r g j) u = stepped 13 1 0 (d + 1) (sizes b + m') (ap (λ (i : ℕ). get_or cs i 0) (sym c) ∙ t) record { cells = refl; words = refl; opens = refl } (left-all {d = d + 1} a r refl refl) (omega arith) (omega arith) (omega arith) (omega arith) (omega arith) (omega arith)
step {d = d} (left-rest {m' = m'} {s = s} {o = o} (is_alt {ls = ls} {b = b} {q = q} t f v l a x) y r g j) u =
    let i = all_in a in
    stepped (64 + length ls) (1 + length ls) (2 * (1 + length ls)) (d + 1) (sizes b + (size_alts q + (2 * count_labels q + (size_other o (size_absent s) + m')))) t (alt-kind (length ls) d f v) (left-all {d = d + 1} a (left-rest {s = s} x y r g refl) refl refl) refl (omega arith) (omega arith) (omega arith) (omega arith) (omega arith)

-- what a scan from p has come to
pub record Going (cs : List ℕ) (n e q w d s : ℕ) : Type 0 where
  pub m : ℕ
  pub left : Left cs n e q d m
  pub sum : w + m ≡ s

abbrev pub Runs : List ℕ → ℕ → ℕ → ℕ → ℕ → Type 0
Runs cs p q w d = (n : ℕ) (a : Acts) (e : ℕ) → IsAll cs n p e a → Going cs n e q w d (sizes a)

pub runs_none : (cs : List ℕ) (p : ℕ) → Runs cs p p 0 1
runs_none cs p n a e h = record { m = sizes a; left = left-all {d = 1} {d' = 0} {m = sizes a} {m' = 0} {q = a} h (left-none refl refl refl) (omega arith) (omega arith); sum = omega arith }

pub runs-more : (cs : List ℕ) (p q w d : ℕ) → 0 < d → Runs cs p q w d → Runs cs p (q + cells_of (get_or cs q 0)) (w + words_of (get_or cs q 0)) (open_after (get_or cs q 0) d)
runs-more cs p q w d o r n a e h =
    let g = r n a e h in
    let s = step g.left o in
    record { m = s.m'; left = s.left; sum = omega arith }

left_end : {cs : List ℕ} {n e p d m : ℕ} → Left cs n e p d m → d ≡ 0 → (p ≡ e) × (m ≡ 0)
left_end (left-none a b c) h = (a, c)
left_end (left-all a l b c) h = absurd (omega arith)
left_end (left-rest a b l g c) h = absurd (omega arith)

pub runs-end : (cs : List ℕ) (p q w d : ℕ) → d ≡ 0 → Runs cs p q w d → (n : ℕ) (a : Acts) (e : ℕ) → IsAll cs n p e a → (w ≡ sizes a) × (q ≡ e)
runs-end cs p q w d z r n a e h =
    let g = r n a e h in
    let f = left_end g.left z in
    (omega arith, f.0)

-- What holds of any cells

by-test : (P : ℕ → Type 0) (a b x y : ℕ) (t : Bool) → ltb a b ≡ t → (a < b → P x) → (b ≤ a → P y) → P (cond t x y)
by-test P a b x y true e f g = f (ltb-true a b e)
by-test P a b x y false e f g = g (ltb-false a b e)

by-any : (P : ℕ → Type 0) (x y : ℕ) (t : Bool) → P x → P y → P (cond t x y)
by-any P x y true f g = f
by-any P x y false f g = g

-- the numbers of a list are from a to b
unfoldable within : ℕ → ℕ → List ℕ → Bool
within a b [] = true
within a b (x ∷ xs) = (leb a x && leb x b) && within a b xs

within-at : (a b : ℕ) (xs : List ℕ) → within a b xs ≡ true → (k : ℕ) → k < length xs → (a ≤ get_or xs k 0) × (get_or xs k 0 ≤ b)
unfolding within
within-at a b [] e k h = absurd (omega arith)
within-at a b (x ∷ xs) e zero h = let p = and (leb a x) (leb x b) (and (leb a x && leb x b) (within a b xs) e).0 in (leb-true a x p.0, leb-true x b p.1)
within-at a b (x ∷ xs) e (suc k) h = within-at a b xs (and (leb a x && leb x b) (within a b xs) e).1 k (omega arith)

pub head-cells : (k : ℕ) → (0 < cells_of k) × (cells_of k ≤ 193)
unfolding cells_of within
head-cells k =
    let P : ℕ → Type 0 = λ c. (0 < c) × (c ≤ 193) in
    by-test P k 15 _ _ (ltb k 15) refl (within-at 1 193 cells_table refl k)
    (λ h1. by-test P k 64 _ _ (ltb k 64) refl (λ i. omega arith) (λ h2. by-test P k 256 _ _ (ltb k 256) refl (λ i. omega arith)
    (λ h3. by-any P _ _ (ltb k 512) (omega arith) (by-any P _ _ (ltb k 768) (omega arith) (by-any P _ _ (ltb k 1024) (omega arith) (omega arith))))))

pub head-words : (k : ℕ) → words_of k ≤ 384
unfolding words_of within
head-words k =
    let P : ℕ → Type 0 = λ c. c ≤ 384 in
    by-test P k 15 _ _ (ltb k 15) refl (λ h. (within-at 0 384 words_table refl k h).1)
    (λ h1. by-test P k 64 _ _ (ltb k 64) refl (λ i. omega arith) (λ h2. by-test P k 256 _ _ (ltb k 256) refl (λ i. omega arith)
    (λ h3. by-any P _ _ (ltb k 512) (omega arith) (by-any P _ _ (ltb k 768) (omega arith) (by-any P _ _ (ltb k 1024) (omega arith) (omega arith))))))

pub head-opens : (k d : ℕ) → open_after k d ≤ d + 1
unfolding open_after
head-opens k d =
    let P : ℕ → Type 0 = λ c. c ≤ d + 1 in
    by-any P _ _ (eqb k 0) (omega arith) (by-any P _ _ (eqb k 2) (omega arith) (by-any P _ _ (eqb k 13) (omega arith) (by-any P _ _ (ltb k 64) (omega arith) (by-any P _ _ (ltb k 256) (omega arith) (omega arith)))))

-- one turn of the scan
pub record Turn (cs : List ℕ) (p q w d q' w' d' : ℕ) : Type 0 where
  pub on : p ≤ q'
  pub deep : d' ≤ q' + 1
  pub near : q' + d' ≤ 2 * length cs + 300
  pub few : w' + 400 * p ≤ 400 * (length cs - (length cs - q'))
  pub less : 2 * (length cs - q') + d' < 2 * (length cs - q) + d

turn-of : (cs : List ℕ) (p q w d k : ℕ) → k ≡ get_or cs q 0 → p ≤ length cs → p ≤ q → 0 < d → d ≤ q + 1 → q + d ≤ 2 * length cs + 300 → w + 400 * p ≤ 400 * (length cs - (length cs - q)) → (q < length cs) ⊎ (length cs ≤ q)
    → Turn cs p q w d (q + cells_of k) (w + words_of k) (open_after k d)
unfolding cells_of words_of open_after
turn-of cs p q w d k e P h o g n f (inl i) =
    let c = head-cells k in let v = head-words k in let u = head-opens k d in
    record { on = omega arith; deep = omega arith; near = omega arith; few = omega arith; less = omega arith }
turn-of cs p q w d k e P h o g n f (inr i) =
    let z : k ≡ 0 = e ∙ get_or-eq_default cs 0 i in
    let c : cells_of k ≡ 1 = ap cells_of z in let v : words_of k ≡ 0 = ap words_of z in let u : open_after k d ≡ d - 1 = ap (λ (j : ℕ). open_after j d) z in
    record { on = omega arith; deep = omega arith; near = omega arith; few = omega arith; less = omega arith }

pub turn : (cs : List ℕ) (p q w d k : ℕ) → k ≡ get_or cs q 0 → p ≤ length cs → p ≤ q → 0 < d → d ≤ q + 1 → q + d ≤ 2 * length cs + 300 → w + 400 * p ≤ 400 * (length cs - (length cs - q))
    → Turn cs p q w d (q + cells_of k) (w + words_of k) (open_after k d)
turn cs p q w d k e P h o g n f = turn-of cs p q w d k e P h o g n f (lt-or-le q (length cs))
