-- What the words of a part can wait for: an exit, or a call of a rule. Assumes nothing.
use Prim.Native.Nat.{ℕ, ◌+◌, ◌*◌, ◌<◌}
use mathlib.Core.Path.{◌≡◌, refl}
use mathlib.Core.Bool.{false}
use mathlib.Core.Logic.{◌⊎◌, inl, inr}
use mathlib.Core.List.{List, [], ◌∷◌, ◌++◌}
use native.Mathlib.Omega.{arith}
use borrow.Author.Tests.{ne_eqb}
use Rattle.program.specs.Program.{Plain, Selector, Act, Acts, Alts, Other, Rule}
use Rattle.program.specs.Table.{size_alts, count_labels, table_words, absent_words, first_label, end_words}
use Rattle.chains.specs.Marks.{Target, outside, end, head, rule, Mark, known, waiting, waits, number, knowns, filled, close, shut, plain_marks, selector_marks, marks, marks_all, marks_alts, marks_other, marks_rule, marks_rules}
use Rattle.chains.specs.Chain.{At, at_here, at_there, places}
use Rattle.chains.proofs.Lists.{at_in, at_split, Behind, at-filled, FilledAt, as-was, now-known, at-knowns, places-none, ne-waits}
use Rattle.emitter.specs.Stands.{IsSel, sel_token, sel_rule, sel_op, sel_op_with, IsPlain, is_match, is_any, is_emit, is_error, is_exit, is_called, is_back, is_give, is_update, is_update_with, Is, is_plain, is_cycle, is_a_choice, IsAlts, is_nil, is_alt, IsOther, is_stop, is_other, IsAll, is_done, is_cons}
use Rattle.emitter.specs.Emitted.{IsRules, rules_none, rules_more}
use Rattle.emitter.proofs.Tables.{Closed}

pub data Allowed (n : ℕ) : Target → Type 0 where
  for-exit : Allowed n outside
  for-call : {r : ℕ} → r < n → Allowed n (rule r)

pub unknown : {t : Target} {w : ℕ} → waiting t ≡ known w → ⊥
unknown h = let z : ◌≡◌ {A = ℕ} 0 1 = cc in omega arith

-- the words of ms wait for nothing else
pub record Only (P : Target → Type 0) (ms : List Mark) : Type 0 where
  pub only : (i : ℕ) (t : Target) → At ms i (waiting t) → P t

module _ {P : Target → Type 0} where
  only-knowns : (ws : List ℕ) → Only P (knowns ws)
  only-knowns ws = record { only = λ i t a. absurd (unknown (at-knowns ws a)) }

  only-both : {xs ys : List Mark} {i : ℕ} {t : Target} → Only P xs → Only P ys → (At xs i (waiting t)) ⊎ Behind xs ys i (waiting t) → P t
  only-both {i = i} {t = t} x y (inl a) = x.only i t a
  only-both {t = t} x y (inr r) = y.only r.j t r.there

  only-append : {xs ys : List Mark} → Only P xs → Only P ys → Only P (xs ++ ys)
  only-append {xs} {ys} x y = record { only = λ i t a. only-both x y (at_split xs ys a) }

  after-known : {w i : ℕ} {ms : List Mark} {t : Target} → Only P ms → At (known w ∷ ms) i (waiting t) → P t
  after-known {t = t} x (at_there {i = i} e a) = x.only i t a

  only-known : {w : ℕ} {ms : List Mark} → Only P ms → Only P (known w ∷ ms)
  only-known x = record { only = λ i t a. after-known x a }

  after-wait : {u t : Target} {i : ℕ} {ms : List Mark} → P u → Only P ms → At (waiting u ∷ ms) i (waiting t) → P t
  after-wait h x at_here = h
  after-wait {t = t} h x (at_there {i = i} e a) = x.only i t a

  only-wait : {u : Target} {ms : List Mark} → P u → Only P ms → Only P (waiting u ∷ ms)
  only-wait h x = record { only = λ i t a. after-wait h x a }

  only_none : Only P []
  only_none = record { only = λ i t a. absurd (let h = at_in a in omega arith) }

filled-wait : {P Q : Target → Type 0} {u t : Target} {g : ℕ → ℕ} {ms : List Mark} {i : ℕ} → ((t : Target) → waits u (waiting t) ≡ false → Q t → P t) → Only Q ms → FilledAt u g ms i (waiting t) → P t
filled-wait {t = t} {i = i} f x (as-was a h) = f t h (x.only i t a)
filled-wait f x (now-known a h) = absurd (unknown h)

only-filled : {P Q : Target → Type 0} {ms : List Mark} (u : Target) (g : ℕ → ℕ) → ((t : Target) → waits u (waiting t) ≡ false → Q t → P t) → Only Q ms → Only P (filled u g ms)
only-filled {ms = ms} u g f x = record { only = λ i t a. filled-wait f x (at-filled u g ms a) }

-- in alternatives also their own ends and heads, in a choice its own ends
pub data Within (n : ℕ) : Target → Type 0 where
  for-end : Within n end
  for-head : Within n head
  for-more : {t : Target} → Allowed n t → Within n t

within : (n : ℕ) (t : Target) → waits end (waiting t) ≡ false → (waits head (waiting t) ≡ false) × Within n t → Allowed n t
within n t h (k, for-end) = absurd (ne-waits end end h refl)
within n t h (k, for-head) = absurd (ne-waits head head k refl)
within n t h (k, for-more a) = a

not-head : (n : ℕ) (t : Target) → waits head (waiting t) ≡ false → Within n t → (waits head (waiting t) ≡ false) × Within n t
not-head n t h w = (h, w)

exit-not-head : (n : ℕ) (t : Target) → Allowed n t → waits head (waiting t) ≡ false
unfolding waits number
exit-not-head n t for-exit = refl
exit-not-head n t (for-call {r = r} k) = ne_eqb 2 (r + 4) (λ e. omega arith)

-- in a choice
choice-only : {n : ℕ} {A O : List Mark} (c : ℕ) (ws : List ℕ) → Only (Within n) A → Only (Allowed n) O → Only (Allowed n) (close end (shut A ++ (known c ∷ (knowns ws ++ O))))
choice-only {n = n} c ws x y =
    only-filled end (λ k. k + 1) (within n)
    (only-append (only-filled head (λ k. 1) (not-head n) x) (only-known (only-append (only-knowns ws) (record { only = λ i t a. (exit-not-head n t (y.only i t a), for-more (y.only i t a)) }))))

module _ {cs : List ℕ} {n : ℕ} where
  plain-only : {p e : ℕ} {a : Plain} → IsPlain cs n p e a → Only (Allowed n) (plain_marks a)
  unfolding plain_marks knowns
  plain-only (is_match {t = v} h l t u) = only-knowns (3 ∷ v ∷ [])
  plain-only (is_any h l t) = only-knowns (4 ∷ [])
  plain-only (is_emit {t = v} h l t u) = only-knowns (5 ∷ v ∷ [])
  plain-only (is_error {t = v} h l t u) = only-knowns (6 ∷ v ∷ [])
  plain-only (is_exit h l t) = only-known (only-wait for-exit only_none)
  plain-only (is_called h l t u b) = only-known (only-wait (for-call b) only_none)
  plain-only (is_back h l t) = only-knowns (9 ∷ [])
  plain-only (is_give {v = v} h l t u) = only-knowns (10 ∷ v ∷ 9 ∷ [])
  plain-only (is_update {op = op} h l t c d) = only-knowns (op ∷ [])
  plain-only (is_update_with {op = op} {v = v} h l t u c d) = only-knowns (13 ∷ v ∷ op ∷ [])

  sel-only : {p e : ℕ} {s : Selector} → IsSel cs n p e s → Only (Allowed n) (selector_marks s)
  unfolding selector_marks knowns
  sel-only (sel_token h l t) = only_none
  sel-only (sel_rule h l t u b) = only-known (only-wait (for-call b) only_none)
  sel-only (sel_op {op = op} h l t c d) = only-knowns (op ∷ [])
  sel-only (sel_op_with {op = op} {v = v} h l t u c d) = only-knowns (13 ∷ v ∷ op ∷ [])

  mutual
    unfolding marks

    pub act-only : {p e : ℕ} {a : Act} → Is cs n p e a → Only (Allowed n) (marks a)
    act-only (is_plain h) = plain-only h
    act-only (is_cycle h t q) = only-filled outside (λ k. k + 1) (λ t h a. a) (only-append (all-only q) (only-known (only-known only_none)))
    act-only (is_a_choice {s = s} {q = q} h x y w) = only-append (sel-only h) (only-known (only-known (choice-only (count_labels q) (table_words 1 q) (alts-only x) (other-only (absent_words s (first_label q) (size_alts q + (1 + 2 * count_labels q + 3))) y))))

    pub other-only : {g e : ℕ} {s : Selector} {o : Other} (vs : List ℕ) → IsOther cs n s g e o → Only (Allowed n) (marks_other o vs)
    other-only vs (is_stop h l t) = only-knowns vs
    other-only vs (is_other h t b) = all-only b

    pub all-only : {p e : ℕ} {q : Acts} → IsAll cs n p e q → Only (Allowed n) (marks_all q)
    all-only (is_done h l t) = only_none
    all-only (is_cons x y) = only-append (act-only x) (all-only y)

    pub alts-only : {p e : ℕ} {q : Alts} → IsAlts cs n p e q → Only (Within n) (marks_alts q)
    alts-only (is_nil h) = only_none
    alts-only (is_alt t g u l x y) = let z = all-only x in only-append (record { only = λ i t a. for-more (z.only i t a) }) (only-wait for-head (only-wait for-end (alts-only y)))

not-allowed : {n : ℕ} {t : Target} → 0 < number t → number t < 4 → Allowed n t → ⊥
unfolding number
not-allowed h k for-exit = omega arith
not-allowed h k (for-call l) = omega arith

module _ {cs : List ℕ} {n : ℕ} where
  pub all_closed : {p e : ℕ} {q : Acts} → IsAll cs n p e q → (t : Target) → 0 < number t → number t < 4 → (l : ℕ) → places t l (marks_all q) ≡ []
  all_closed {q = q} h t i k l = places-none t l (marks_all q) (λ j a. not-allowed i k ((all-only h).only j t a))

  pub other-closed : {s : Selector} {p e : ℕ} {o : Other} → IsOther cs n s p e o → (t : Target) → 0 < number t → number t < 4 → (l : ℕ) (vs : List ℕ) → places t l (marks_other o vs) ≡ []
  other-closed {o = o} h t i k l vs = places-none t l (marks_other o vs) (λ j a. not-allowed i k ((other-only vs h).only j t a))

  pub alts-closed : {p e : ℕ} {q : Alts} → IsAlts cs n p e q → Closed q
  unfolding Closed number
  alts-closed (is_nil h) = tt
  alts-closed (is_alt t g u l x y) = (λ i. all_closed x head (omega arith) (omega arith) i, λ i. all_closed x end (omega arith) (omega arith) i, alts-closed y)

-- a rule waits for calls alone
pub data Calls (n : ℕ) : Target → Type 0 where
  calls : {r : ℕ} → r < n → Calls n (rule r)

no-exit : (n : ℕ) (t : Target) → waits outside (waiting t) ≡ false → Allowed n t → Calls n t
no-exit n t h for-exit = absurd (ne-waits outside outside h refl)
no-exit n t h (for-call k) = calls k

pub rules-only : {cs sorts : List ℕ} {n p r : ℕ} {bs : List Rule} → IsRules cs sorts n p r bs → Only (Calls n) (marks_rules bs)
unfolding marks_rules marks_rule
rules-only rules_none = only_none
rules-only {n = n} (rules_more {b = b} x y z) = only-append (only-append (only-filled outside (λ k. k + 1) (no-exit n) (all-only x)) (only-knowns (end_words b.valued))) (rules-only z)
