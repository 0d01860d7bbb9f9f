-- The ways of the test are those of `Reachable`.
use mathlib.Core.Bool.{Bool, true, false}
use mathlib.Core.List.{List, [], ◌∷◌, ◌++◌}
use mathlib.Core.Logic.{inl, inr}
use mathlib.Core.Option.{Option, none, some}
use mathlib.Core.Path.{◌≡◌, refl, sym, ap, ◌∙◌, subst}
use Prim.Native.Nat.{ℕ, zero, suc, ◌+◌, ◌*◌, ◌-◌, ◌<◌, ◌≤◌}
use native.Mathlib.Omega.{arith}
use lib.Dec.{leb}
use lib.ListN.{length}
use borrow.Author.Tests.{leb-true}
use Rattle.base.specs.Bools.{never}
use Rattle.std.specs.Prelude.{if◌then◌else◌}
use Rattle.base.specs.Common.{member, given}
use Rattle.machine.specs.Decode.{fetch, Instruction, invalid, jump, input, input_any, write, input_choice, call_rule, return, set_result, choice, end_choice, set_parameter, update, update_with, choose, choose_with, decode}
use Rattle.loading.specs.Reach.{Chooses, by_token, by_result, behind, Reachable, at_start, at_target, at_label, at_default, at_call, after_call, at_next}
use Rattle.loading.specs.Taking.{back_from, labelled, chosen, onward, ways}
use Rattle.loading.proofs.Members.{member-head, member-here, member-tail, member-cons, member-left, member_right, member-either, inside-fetch}

-- reachable by the ways of the test: what the proofs go by
pub data ByWays (T : List ℕ) : ℕ → Type 0 where
  from_start : ByWays T 1
  by_way : {l m : ℕ} → ByWays T l → member m (ways T l) ≡ true → ByWays T m

-- the label that leads to m
record Label (T : List ℕ) (n from m : ℕ) : Type 0 where
  which : ℕ
  low : which < n
  leads : back_from T (from + 2 * which + 1) ≡ m

module _ (T : List ℕ) where
  -- Labels

  label_of : (n from m : ℕ) → member m (labelled T n from) ≡ true → Label T n from m
  unfolding labelled
  label_of zero from m h = never h
  label_of (suc n) from m h = elim (member-cons m (back_from T (from + 1)) (labelled T n (from + 2)) h) [
    | inl e ↦ record { which = 0; low = omega arith; leads = ap (back_from T) (first from) ∙ sym e }
    | inr t ↦ later (label_of n (from + 2) m t)
  ]
    where
      first : (k : ℕ) → k + 2 * 0 + 1 ≡ k + 1
      first k = omega arith

      next : (k i : ℕ) → k + 2 * (i + 1) + 1 ≡ k + 2 + 2 * i + 1
      next k i = omega arith

      later : Label T n (from + 2) m → Label T (suc n) from m
      later r = record { which = r.which + 1; low = omega (arith, r.low); leads = ap (back_from T) (next from r.which) ∙ r.leads }

  label-in : (n from i : ℕ) → i < n → member (back_from T (from + 2 * i + 1)) (labelled T n from) ≡ true
  unfolding labelled
  label-in zero from i h = absurd (omega arith)
  label-in (suc n) from zero h =
      let e : from + 2 * 0 + 1 ≡ from + 1 = omega arith in
      member-here (back_from T (from + 2 * 0 + 1)) (back_from T (from + 1)) (labelled T n (from + 2)) (ap (back_from T) e)
  label-in (suc n) from (suc i) h =
      let e : from + 2 * suc i + 1 ≡ from + 2 + 2 * i + 1 = omega arith in
      let r = subst (λ (p : ℕ). member (back_from T p) (labelled T n (from + 2)) ≡ true) (sym e) (label-in n (from + 2) i (omega arith)) in
      member-tail (back_from T (from + 2 * suc i + 1)) (back_from T (from + 1)) (labelled T n (from + 2)) r

  -- From ways to `Reachable`

  label-reach : {l c n : ℕ} (i : ℕ) → Reachable T l → Chooses T l c n → c + 2 * n ≤ length T → i < n → Reachable T (back_from T (c + 2 * i + 2))
  unfolding back_from
  label-reach {c = c} i r k u h = go (fetch T (c + 2 * i + 2)) refl (inside-fetch T (c + 2 * i + 2) (omega arith) (omega arith))
    where
      go : (o : Option ℕ) → fetch T (c + 2 * i + 2) ≡ o → given (fetch T (c + 2 * i + 2)) ≡ true
          → Reachable T (elim o [ none ↦ 0 | some x ↦ c + 2 * i + 2 - x ])
      go none e g = never (rw e at g)
      go (some x) e g = at_label r k h e

  choice-reach : {l c n m : ℕ} → Reachable T l → Chooses T l c n → leb (c + 2 * n) (length T) ≡ true
      → member m (labelled T n (c + 1) ++ ((c + 1 + 2 * n) ∷ [])) ≡ true → Reachable T m
  choice-reach {c = c} {n = n} {m = m} r k t h = elim (member-either m (labelled T n (c + 1)) ((c + 1 + 2 * n) ∷ []) h) [
    | inl y ↦ label (label_of n (c + 1) m y)
    | inr y ↦ elim (member-cons m (c + 1 + 2 * n) [] y) [ inl e ↦ default e | inr z ↦ never z ]
  ]
    where
      place : (i : ℕ) → c + 2 * i + 2 ≡ c + 1 + 2 * i + 1
      place i = omega arith

      label : Label T n (c + 1) m → Reachable T m
      label a =
          subst (λ (p : ℕ). Reachable T p) (ap (back_from T) (place a.which) ∙ a.leads)
          (label-reach a.which r k (leb-true (c + 2 * n) (length T) t) a.low)

      behind-table : c + 2 * n + 1 ≡ c + 1 + 2 * n
      behind-table = omega arith

      default : m ≡ c + 1 + 2 * n → Reachable T m
      default e = subst (λ (p : ℕ). Reachable T p) (behind-table ∙ sym e) (at_default r k)

  chosen-reach : {l : ℕ} (c : ℕ) {m : ℕ} → Reachable T l → ((n : ℕ) → fetch T c ≡ some n → leb (c + 2 * n) (length T) ≡ true → Chooses T l c n)
      → member m (chosen T c (fetch T c)) ≡ true → Reachable T m
  unfolding chosen
  chosen-reach c {m} r k h = go (fetch T c) refl h
    where
      fitted : (n : ℕ) → fetch T c ≡ some n → (t : Bool) → leb (c + 2 * n) (length T) ≡ t
          → member m (if t then labelled T n (c + 1) ++ ((c + 1 + 2 * n) ∷ []) else []) ≡ true → Reachable T m
      fitted n e true t d = choice-reach r (k n e t) t d
      fitted n e false t d = never d

      go : (o : Option ℕ) → fetch T c ≡ o → member m (chosen T c o) ≡ true → Reachable T m
      go none e d = never d
      go (some n) e d = fitted n e (leb (c + 2 * n) (length T)) refl d

  one : {x m : ℕ} → member m (x ∷ []) ≡ true → Reachable T x → Reachable T m
  one {x} {m} h r = elim (member-cons m x [] h) [ inl e ↦ rw e r | inr t ↦ never t ]

  pub way : {l m : ℕ} → Reachable T l → member m (ways T l) ≡ true → Reachable T m
  unfolding ways onward behind
  way {l} {m} r h = go (decode T l) refl h
    where
      next : {x : ℕ} → behind l (decode T l) ≡ some x → member m (x ∷ []) ≡ true → Reachable T m
      next e d = one d (at_next r e)

      go : (i : Instruction) → decode T l ≡ i → member m (onward T l i) ≡ true → Reachable T m
      go invalid e d = never d
      go (jump k) e d = one d (at_target r e)
      go (input t) e d = next (rw e) d
      go input_any e d = next (rw e) d
      go (write x) e d = next (rw e) d
      go (input_choice c) e d = chosen-reach c r (λ n. by_token e) d
      go (call_rule k) e d = elim (member-cons m k ((l + 2) ∷ []) d) [ inl q ↦ rw q (at_call r e) | inr t ↦ one t (after_call r e) ]
      go return e d = never d
      go (set_result v) e d = next (rw e) d
      go (choice c) e d = chosen-reach c r (λ n. by_result e) d
      go end_choice e d = never d
      go (set_parameter v) e d = next (rw e) d
      go (update op) e d = next (rw e) d
      go (update_with op) e d = next (rw e) d
      go (choose op) e d = next (rw e) d
      go (choose_with op) e d = next (rw e) d

  -- and back

  ways-by : (l : ℕ) (i : Instruction) → decode T l ≡ i → ways T l ≡ onward T l i
  unfolding ways
  ways-by l i e = ap (onward T l) e

  choice-ways : {l c n : ℕ} → Chooses T l c n → ways T l ≡ labelled T n (c + 1) ++ ((c + 1 + 2 * n) ∷ [])
  unfolding onward chosen
  choice-ways {l = l} {c = c} (by_token d f t) = ways-by l (input_choice c) d ∙ rw (f, chosen, t)
  choice-ways {l = l} {c = c} (by_result d f t) = ways-by l (choice c) d ∙ rw (f, chosen, t)

  label-way : {l c n x : ℕ} (i : ℕ) → Chooses T l c n → i < n → fetch T (c + 2 * i + 2) ≡ some x → member (c + 2 * i + 2 - x) (ways T l) ≡ true
  unfolding back_from
  label-way {c = c} {n = n} {x = x} i k h f =
      let e : c + 1 + 2 * i + 1 ≡ c + 2 * i + 2 = omega arith in
      let b : back_from T (c + 1 + 2 * i + 1) ≡ c + 2 * i + 2 - x = ap (back_from T) e ∙ rw (back_from, f) in
      let w = choice-ways k in
      rw (w, ← b) (member-left (back_from T (c + 1 + 2 * i + 1)) (labelled T n (c + 1)) ((c + 1 + 2 * n) ∷ []) (label-in n (c + 1) i h))

  default-way : {l c n : ℕ} → Chooses T l c n → member (c + 2 * n + 1) (ways T l) ≡ true
  default-way {c = c} {n = n} k =
      let e : c + 2 * n + 1 ≡ c + 1 + 2 * n = omega arith in
      let w = choice-ways k in
      rw (w, e) (member_right (c + 1 + 2 * n) (labelled T n (c + 1)) ((c + 1 + 2 * n) ∷ []) (member-head (c + 1 + 2 * n) []))

  next_way : (l m : ℕ) → behind l (decode T l) ≡ some m → member m (ways T l) ≡ true
  unfolding ways onward behind
  next_way l m h = go (decode T l) h
    where
      is : {x : ℕ} → some x ≡ some m → member m (x ∷ []) ≡ true
      is {x} e = let q : x ≡ m = cc in rw q (member-head m [])

      go : (i : Instruction) → behind l i ≡ some m → member m (onward T l i) ≡ true
      go invalid e = let z : ◌≡◌ {A = ℕ} 0 1 = cc in absurd (omega arith)
      go (jump k) e = let z : ◌≡◌ {A = ℕ} 0 1 = cc in absurd (omega arith)
      go (input t) e = is e
      go input_any e = is e
      go (write x) e = is e
      go (input_choice c) e = let z : ◌≡◌ {A = ℕ} 0 1 = cc in absurd (omega arith)
      go (call_rule k) e = let z : ◌≡◌ {A = ℕ} 0 1 = cc in absurd (omega arith)
      go return e = let z : ◌≡◌ {A = ℕ} 0 1 = cc in absurd (omega arith)
      go (set_result v) e = is e
      go (choice c) e = let z : ◌≡◌ {A = ℕ} 0 1 = cc in absurd (omega arith)
      go end_choice e = let z : ◌≡◌ {A = ℕ} 0 1 = cc in absurd (omega arith)
      go (set_parameter v) e = is e
      go (update op) e = is e
      go (update_with op) e = is e
      go (choose op) e = is e
      go (choose_with op) e = is e

  pub by-ways : {l : ℕ} → Reachable T l → ByWays T l
  unfolding onward
  by-ways at_start = from_start
  by-ways (at_target {l = l} {m = m} r e) = by_way {m = m} (by-ways r) (rw (ways-by l (jump m) e) (member-head m []))
  by-ways (at_label {i = i} r k h f) = by_way (by-ways r) (label-way i k h f)
  by-ways (at_default r k) = by_way (by-ways r) (default-way k)
  by-ways (at_call {l = l} {m = m} r e) = by_way {m = m} (by-ways r) (rw (ways-by l (call_rule m) e) (member-head m ((l + 2) ∷ [])))
  by-ways (after_call {l = l} {m = m} r e) =
      by_way {m = l + 2} (by-ways r) (rw (ways-by l (call_rule m) e) (member-tail (l + 2) m ((l + 2) ∷ []) (member-head (l + 2) [])))
  by-ways (at_next {l = l} {m = m} r e) = by_way (by-ways r) (next_way l m e)
