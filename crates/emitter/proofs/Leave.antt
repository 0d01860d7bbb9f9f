-- What stands in the cells, by its first cell. Assumes nothing.
use Prim.Native.Nat.{ℕ, ◌+◌, ◌<◌, ◌≤◌}
use mathlib.Core.Path.{◌≡◌, refl, ap, ◌∙◌}
use mathlib.Core.Bool.{Bool, true, false, cond}
use mathlib.Core.List.{List}
use native.Mathlib.Omega.{arith}
use lib.ListN.{length, get_or}
use lib.Dec.{ltb}
use borrow.Author.Tests.{lt-ltb, le-ltb}
use Rattle.base.specs.Tree.{nil, alternative}
use Rattle.program.specs.Program.{Plain, Selector, by_token, by_rule, by_operation, by_operation_with, Act, Acts, Alts, Other}
use Rattle.cells.specs.Cells.{absent_cell}
use Rattle.emitter.specs.Stands.{IsSel, sel_token, sel_rule, sel_op, sel_op_with, Labels, IsPlain, is_match, is_any, is_emit, is_error, is_exit, is_called, is_back, is_give, is_update, is_update_with, Is, is_plain, is_cycle, is_a_choice, IsAlts, is_nil, is_alt, IsOther, is_stop, is_other, IsAll, is_done, is_cons}
use Rattle.emitter.specs.Heads.{labels_in, labels_at}
use Rattle.emitter.proofs.Laws.{at_in}

pub sel-in : {cs : List ℕ} {n p e : ℕ} {s : Selector} → IsSel cs n p e s → (p < e) × (e ≤ length cs)
sel-in (sel_token h l t) = omega arith
sel-in (sel_rule h l t v r) = omega arith
sel-in (sel_op h l t f u) = omega arith
sel-in (sel_op_with h l t v f u) = omega arith

pub plain_in : {cs : List ℕ} {n p e : ℕ} {a : Plain} → IsPlain cs n p e a → (p < e) × (e ≤ length cs)
plain_in (is_match h l t v) = omega arith
plain_in (is_any h l t) = omega arith
plain_in (is_emit h l t v) = omega arith
plain_in (is_error h l t v) = omega arith
plain_in (is_exit h l t) = omega arith
plain_in (is_called h l t v r) = omega arith
plain_in (is_back h l t) = omega arith
plain_in (is_give h l t v) = omega arith
plain_in (is_update h l t f u) = omega arith
plain_in (is_update_with h l t v f u) = omega arith

mutual
  pub is-in : {cs : List ℕ} {n p e : ℕ} {a : Act} → Is cs n p e a → (p < e) × (e ≤ length cs)
  is-in (is_plain a) = plain_in a
  is-in (is_cycle h t b) = let i = all_in b in omega arith
  is-in (is_a_choice s q o w) = let i = sel-in s in let j = alts-in q in let k = other_in o in omega arith

  pub alts-in : {cs : List ℕ} {n p e : ℕ} {q : Alts} → IsAlts cs n p e q → p ≤ e
  alts-in (is_nil h) = omega arith
  alts-in (is_alt t h u l b q) = let i = all_in b in let j = alts-in q in omega arith

  pub other_in : {cs : List ℕ} {n p e : ℕ} {s : Selector} {o : Other} → IsOther cs n s p e o → (p < e) × (e ≤ length cs)
  other_in (is_stop h l t) = omega arith
  other_in (is_other h t b) = let i = all_in b in omega arith

  pub all_in : {cs : List ℕ} {n p e : ℕ} {q : Acts} → IsAll cs n p e q → (p < e) × (e ≤ length cs)
  all_in (is_done h l t) = omega arith
  all_in (is_cons a q) = let i = is-in a in let j = all_in q in omega arith

-- alternatives by their cells
stop-labels : (s : Selector) → labels_in (absent_cell s) ≡ 0
unfolding labels_in absent_cell
stop-labels by_token = refl
stop-labels (by_rule r) = refl
stop-labels (by_operation r) = refl
stop-labels (by_operation_with r v) = refl

pub labels-alt : (j : ℕ) → j < 192 → labels_in (64 + j) ≡ j
unfolding labels_in
labels-alt j u = let a : ltb (64 + j) 64 ≡ false = le-ltb (64 + j) 64 (omega arith) in let b : ltb (64 + j) 256 ≡ true = lt-ltb (64 + j) 256 (omega arith) in simp (a, b) (omega arith)

other-labels : {cs : List ℕ} {n p e : ℕ} {s : Selector} {o : Other} → IsOther cs n s p e o → labels_in (get_or cs p 0) ≡ 0
unfolding labels_in
other-labels {s = s} (is_stop h l t) = ap labels_in t ∙ stop-labels s
other-labels (is_other h t b) = ap labels_in t

pub record AltCons (cs : List ℕ) (n p f : ℕ) (q : Alts) : Type 0 where
  pub ls : List ℕ
  pub b : Acts
  pub r : Alts
  pub mid : ℕ
  pub labels : Labels cs (p + 1) ls
  pub body : IsAll cs n (p + (1 + length ls)) mid b
  pub alts : IsAlts cs n mid f r
  pub eq : q ≡ alternative ls b r
  pub count : labels_at cs p ≡ length ls
  pub few : length ls < 192

cond_pos : (b : Bool) (x : ℕ) → 0 < cond b x 0 → cond b x 0 ≡ x
cond_pos true x h = refl
cond_pos false x h = absurd (omega arith)

at-pos : (cs : List ℕ) (p : ℕ) → 0 < labels_at cs p → labels_at cs p ≡ labels_in (get_or cs p 0)
unfolding labels_at
at-pos cs p h = cond_pos (ltb (p + labels_in (get_or cs p 0)) (length cs)) (labels_in (get_or cs p 0)) h

pub alt-of : {cs : List ℕ} {n p f e : ℕ} {s : Selector} {q : Alts} {o : Other} → IsAlts cs n p f q → IsOther cs n s f e o → 0 < labels_at cs p → AltCons cs n p f q
alt-of {cs} {p = p} {f = f} (is_nil c) y h =
    let z = other-labels y in let w : labels_in (get_or cs f 0) ≡ labels_in (get_or cs p 0) = ap (λ (i : ℕ). labels_in (get_or cs i 0)) c in let v = at-pos cs p h in absurd (omega arith)
alt-of {cs} {p = p} (is_alt {f = m} {ls = ls} {b = b} {q = q} t g u l a x) y h = record { ls = ls; b = b; r = q; mid = m; labels = l; body = a; alts = x; eq = refl; count = at-pos cs p h ∙ (ap labels_in t ∙ labels-alt (length ls) u); few = u }

pub nil-of : {cs : List ℕ} {n p f e : ℕ} {s : Selector} {q : Alts} {o : Other} → IsAlts cs n p f q → IsOther cs n s f e o → labels_at cs p ≡ 0 → (q ≡ nil) × (f ≡ p)
nil-of (is_nil c) y h = (refl, c)
nil-of {cs} {p = p} (is_alt {ls = ls} t g u l a x) y h = let z : labels_in (get_or cs p 0) ≡ length ls = ap labels_in t ∙ labels-alt (length ls) u in let i = all_in a in let w = at_in cs p (omega arith) in absurd (omega arith)
