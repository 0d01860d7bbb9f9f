-- The two definitions of what can be reached are one, and so are those of where a label leads.
use mathlib.Core.Bool.{Bool, true, false, not}
use mathlib.Core.List.{List}
use mathlib.Core.Option.{Option, none, some}
use mathlib.Core.Path.{◌≡◌, refl, sym, ap, ◌∙◌}
use Prim.Native.Nat.{ℕ, zero, suc, ◌+◌, ◌*◌, ◌-◌, ◌<◌, ◌≤◌}
use native.Mathlib.Omega.{arith}
use lib.Dec.{leb}
use lib.ListN.{length}
use borrow.Author.Tests.{eqb-true, eq-eqb, leb-true}
use Rattle.base.specs.Bools.{never}
use Rattle.std.specs.Prelude.{if◌then◌else◌}
use Rattle.base.specs.Common.{given}
use Rattle.events.specs.Events.{is}
use Rattle.figure.specs.Figure.{label_at, label_by, back_from, way_among, way_of, way_out, Leads, leads_jump, leads_input, leads_any, leads_write, leads_token, leads_call, leads_result, leads_choice, leads_parameter, leads_update, leads_update_with, leads_choose, leads_choose_with, Reached, at_start as start-here, further}
use Rattle.loading.proofs.Members.{inside-fetch}
use Rattle.loading.specs.Reach.{fits, Chooses, by_token, by_result, behind, Reachable, at_start, at_target, at_label, at_default, at_call, after_call, at_next, bad, gives37, Taken}
use Rattle.machine.specs.Decode.{fetch, Instruction, invalid, jump, input, input_any, write, input_choice, call_rule, return, set_result, choice, end_choice, set_parameter, update, update_with, choose, choose_with, decode}
use Rattle.machine.specs.Step.{seek}
use Rattle.safety.specs.Reached.{Begun, first, called, NoRepeats, ReachedAlike, LabelsAlike}

pub labels-alike : LabelsAlike
unfolding label_at seek
labels-alike T tokens v zero l = refl
labels-alike T tokens v (suc n) l = rw (labels-alike T tokens v n (l + 2)) refl

-- Labels

module _ (T : List ℕ) where
  -- the location of the distance of a label
  label-place : (v n l d : ℕ) → label_at T v n l ≡ some d → (i : ℕ) × (i < n) × (d ≡ l + 2 * i + 1)
  unfolding label_at
  label-place v zero l d e = let z : ◌≡◌ {A = ℕ} 0 1 = cc in absurd (omega arith)
  label-place v (suc n) l d e = go (is v (fetch T l)) e (λ q. label-place v n (l + 2) d q)
    where
      go : (t : Bool) → (if t then some (l + 1) else label_at T v n (l + 2)) ≡ some d → (label_at T v n (l + 2) ≡ some d → (i : ℕ) × (i < n) × (d ≡ l + 2 + 2 * i + 1))
          → (i : ℕ) × (i < suc n) × (d ≡ l + 2 * i + 1)
      go true q f = let x : l + 1 ≡ d = cc in (0, omega arith, omega arith)
      go false q f = let x = f q in (suc x.0, omega (arith, x.1), omega (arith, x.2))

  -- the first label of a value
  label-found : (v n l i : ℕ) → i < n → fetch T (l + 2 * i) ≡ some v → ((j : ℕ) → j < i → fetch T (l + 2 * j) ≡ some v → ⊥) → label_at T v n l ≡ some (l + 2 * i + 1)
  unfolding label_at is
  label-found v zero l i h e f = absurd (omega arith)
  label-found v (suc n) l zero h e f =
      let z : l + 2 * 0 ≡ l = omega arith in
      let q : fetch T l ≡ some v = rw z at e in
      rw (q, is, eq-eqb v v refl) (ap (λ (k : ℕ). some k) (omega arith))
  label-found v (suc n) l (suc i) h e f =
      let z : l + 2 + 2 * i ≡ l + 2 * suc i = omega arith in
      go (is v (fetch T l)) refl (label-found v n (l + 2) i (omega arith) (rw z e) (λ j q r. f (suc j) (omega arith) (let x : l + 2 * suc j ≡ l + 2 + 2 * j = omega arith in rw x r)))
    where
      not-here : (o : Option ℕ) → fetch T l ≡ o → is v o ≡ true → ⊥
      not-here none q t = never t
      not-here (some x) q t =
          let z : l + 2 * 0 ≡ l = omega arith in
          let y : v ≡ x = eqb-true v x t in
          f 0 (omega arith) (rw z (q ∙ ap (λ (k : ℕ). some k) (sym y)))

      go : (t : Bool) → is v (fetch T l) ≡ t → label_at T v n (l + 2) ≡ some (l + 2 + 2 * i + 1) → (if t then some (l + 1) else label_at T v n (l + 2)) ≡ some (l + 2 * suc i + 1)
      go true t d = absurd (not-here (fetch T l) refl t)
      go false t d = let y : l + 2 + 2 * i + 1 ≡ l + 2 * suc i + 1 = omega arith in d ∙ ap (λ (k : ℕ). some k) y

  -- Each way on is one

  there : (l : ℕ) → 1 ≤ l → l ≤ length T → (x : ℕ) × (fetch T l ≡ some x)
  there l a b = go (fetch T l) refl (inside-fetch T l a b)
    where
      go : (o : Option ℕ) → fetch T l ≡ o → given o ≡ true → (x : ℕ) × (fetch T l ≡ some x)
      go none e h = never h
      go (some x) e h = (x, e)

  module _ (good : Taken T) where
    -- a choice that can be reached lies inside
    chooses : (l c : ℕ) (i : Instruction) → decode T l ≡ i → Reachable T l → (bad T i ≡ not (fits T c (fetch T c))) → ((n : ℕ) → fetch T c ≡ some n → leb (c + 2 * n) (length T) ≡ true → Chooses T l c n)
        → (n : ℕ) × Chooses T l c n × (fetch T c ≡ some n) × (c + 2 * n ≤ length T)
    unfolding gives37 fits
    chooses l c i d r q f = go (fetch T c) refl (sym (good l r ∙ refl) ∙ ap (bad T) d ∙ q)
      where
        go : (o : Option ℕ) → fetch T c ≡ o → false ≡ not (fits T c o) → (n : ℕ) × Chooses T l c n × (fetch T c ≡ some n) × (c + 2 * n ≤ length T)
        go none e h = never h
        go (some n) e h = inner (leb (c + 2 * n) (length T)) refl h
          where
            inner : (t : Bool) → leb (c + 2 * n) (length T) ≡ t → false ≡ not t → (n : ℕ) × Chooses T l c n × (fetch T c ≡ some n) × (c + 2 * n ≤ length T)
            inner true t z = (n, f n e t, e, leb-true (c + 2 * n) (length T) t)
            inner false t z = never z

    -- a way out of it
    way-reached : (l c n : ℕ) (v : Option ℕ) → Reachable T l → Chooses T l c n → fetch T c ≡ some n → c + 2 * n ≤ length T → Reachable T (way_out T c v)
    unfolding way_out way_of way_among back_from label_by
    way-reached l c n v r ch e h = rw (e, way_of) (by-label v)
      where
        default : Reachable T (c + 1 + 2 * n)
        default = let z : c + 2 * n + 1 ≡ c + 1 + 2 * n = omega arith in rw z at (at_default r ch)

        at-distance : (d i x : ℕ) → i < n → d ≡ c + 2 * i + 2 → fetch T d ≡ some x → Reachable T (d - x)
        at-distance d i x k y f = rw y (at_label r ch k (rw y at f))

        labelled : (v : ℕ) (o : Option ℕ) → label_at T v n (c + 1) ≡ o → Reachable T (way_among T c n o)
        labelled v none q = default
        labelled v (some d) q =
            let p = label-place v n (c + 1) d q in
            let i = p.0 in
            let y : d ≡ c + 2 * i + 2 = omega (arith, p.2) in
            let f = there d (omega arith) (omega (arith, p.1)) in
            rw (f.1, back_from) (at-distance d i f.0 p.1 y f.1)

        by-label : (v : Option ℕ) → Reachable T (way_among T c n (label_by T v n (c + 1)))
        by-label none = default
        by-label (some v) = labelled v (label_at T v n (c + 1)) refl

    -- by a token's choice, and by a result's
    token-way : {l c m : ℕ} → Reachable T l → decode T l ≡ input_choice c → Leads T l (input_choice c) m → Reachable T m
    unfolding bad
    token-way {l} {c} r d (leads_token v) =
        let x = chooses l c (input_choice c) d r refl (λ n e t. by_token d e t) in way-reached l c x.0 v r x.1 x.2 x.3

    result-way : {l c m : ℕ} → Reachable T l → decode T l ≡ choice c → Leads T l (choice c) m → Reachable T m
    unfolding bad
    result-way {l} {c} r d (leads_choice v) =
        let x = chooses l c (choice c) d r refl (λ n e t. by_result d e t) in way-reached l c x.0 v r x.1 x.2 x.3

    one_way : {l m : ℕ} (i : Instruction) → Reachable T l → decode T l ≡ i → Leads T l i m → Reachable T m
    unfolding behind
    one_way (jump m) r d leads_jump = at_target r d
    one_way (input t) r d leads_input = at_next r (ap (behind _) d)
    one_way input_any r d leads_any = at_next r (ap (behind _) d)
    one_way (write e) r d leads_write = at_next r (ap (behind _) d)
    one_way (input_choice c) r d w = token-way r d w
    one_way (call_rule s) r d leads_call = after_call r d
    one_way (set_result v) r d leads_result = at_next r (ap (behind _) d)
    one_way (choice c) r d w = result-way r d w
    one_way (set_parameter v) r d leads_parameter = at_next r (ap (behind _) d)
    one_way (update op) r d leads_update = at_next r (ap (behind _) d)
    one_way (update_with op) r d leads_update_with = at_next r (ap (behind _) d)
    one_way (choose op) r d leads_choose = at_next r (ap (behind _) d)
    one_way (choose_with op) r d leads_choose_with = at_next r (ap (behind _) d)
    one_way {l = l} {m = m} invalid r d x3 = elim x3 [ ]
    one_way {l = l} {m = m} return r d x5 = elim x5 [ ]
    one_way {l = l} {m = m} end_choice r d x7 = elim x7 [ ]

    from_start : {s : ℕ} → Begun T s → Reachable T s
    from_start first = at_start
    from_start (called r d) = at_call r d

    only_these : {s l : ℕ} → Begun T s → Reached T s l → Reachable T l
    only_these b start-here = from_start b
    only_these b (further {l = l} r w) = one_way (decode T l) (only_these b r) refl w

    -- and each location is come to so
    abbrev Some : ℕ → Type 0
    Some l = (s : ℕ) × Begun T s × Reached T s l

    one_more : {l m : ℕ} → Some l → Leads T l (decode T l) m → Some m
    one_more x w = (x.0, x.1, further x.2 w)

    -- a way out of a choice, whichever kind it is
    leads-out : {l c n : ℕ} → Chooses T l c n → (v : Option ℕ) → (Leads T l (decode T l) (way_out T c v)) × (fetch T c ≡ some n) × (c + 2 * n ≤ length T)
    leads-out {l} {c} {n} (by_token d e t) v = (rw d (leads_token v), e, leb-true (c + 2 * n) (length T) t)
    leads-out {l} {c} {n} (by_result d e t) v = (rw d (leads_choice v), e, leb-true (c + 2 * n) (length T) t)

    next_way : {l m : ℕ} (i : Instruction) → behind l i ≡ some m → Leads T l i m
    unfolding behind
    next_way invalid e = let z : ◌≡◌ {A = ℕ} 0 1 = cc in absurd (omega arith)
    next_way (jump k) e = let z : ◌≡◌ {A = ℕ} 0 1 = cc in absurd (omega arith)
    next_way {l} {m} (input t) e = let z : l + 2 ≡ m = cc in rw (← z) leads_input
    next_way {l} {m} input_any e = let z : l + 1 ≡ m = cc in rw (← z) leads_any
    next_way {l} {m} (write w) e = let z : l + 2 ≡ m = cc in rw (← z) leads_write
    next_way (input_choice c) e = let z : ◌≡◌ {A = ℕ} 0 1 = cc in absurd (omega arith)
    next_way (call_rule s) e = let z : ◌≡◌ {A = ℕ} 0 1 = cc in absurd (omega arith)
    next_way return e = let z : ◌≡◌ {A = ℕ} 0 1 = cc in absurd (omega arith)
    next_way {l} {m} (set_result v) e = let z : l + 2 ≡ m = cc in rw (← z) leads_result
    next_way (choice c) e = let z : ◌≡◌ {A = ℕ} 0 1 = cc in absurd (omega arith)
    next_way end_choice e = let z : ◌≡◌ {A = ℕ} 0 1 = cc in absurd (omega arith)
    next_way {l} {m} (set_parameter v) e = let z : l + 2 ≡ m = cc in rw (← z) leads_parameter
    next_way {l} {m} (update op) e = let z : l + 1 ≡ m = cc in rw (← z) leads_update
    next_way {l} {m} (update_with op) e = let z : l + 1 ≡ m = cc in rw (← z) leads_update_with
    next_way {l} {m} (choose op) e = let z : l + 1 ≡ m = cc in rw (← z) leads_choose
    next_way {l} {m} (choose_with op) e = let z : l + 1 ≡ m = cc in rw (← z) leads_choose_with

    module _ (once : NoRepeats T) where
      -- a label's way is that of its value: no equal one stands before it
      label-way : {l c n i x : ℕ} → Reachable T l → Chooses T l c n → i < n → fetch T (c + 2 * i + 2) ≡ some x → (v : ℕ) × (way_out T c (some v) ≡ c + 2 * i + 2 - x)
      unfolding way_out way_of way_among label_by back_from
      label-way {l} {c} {n} {i} {x} r ch h f =
          let o = leads-out ch none in
          let g = there (c + 2 * i + 1) (omega arith) (omega (arith, o.2)) in
          let y : c + 1 + 2 * i ≡ c + 2 * i + 1 = omega arith in
          let q = label-found g.0 n (c + 1) i h (rw y g.1) (λ j k e. once l c n j i r ch k h (let u : c + 2 * j + 1 ≡ c + 1 + 2 * j = omega arith in rw u (e ∙ sym g.1))) in
          let p : c + 1 + 2 * i + 1 ≡ c + 2 * i + 2 = omega arith in
          (g.0, rw (o.1, way_of, q, way_among, p, f, back_from) (ap (λ (k : ℕ). k - x) p))

      all_these : {l : ℕ} → Reachable T l → Some l
      unfolding way_out way_of way_among label_by
      all_these at_start = (1, first, start-here)
      all_these (at_target r d) = one_more (all_these r) (rw d leads_jump)
      all_these (at_label {l = l} {c = c} r ch h f) =
          let y = label-way r ch h f in one_more (all_these r) (rw (← y.1) (leads-out ch (some y.0)).0)
      all_these (at_default {l = l} {c = c} {n = n} r ch) =
          let o = leads-out ch none in
          let p : c + 1 + 2 * n ≡ c + 2 * n + 1 = omega arith in
          let e : way_out T c none ≡ c + 2 * n + 1 = rw (o.1, way_of) p in
          one_more (all_these r) (rw e at o.0)
      all_these (at_call {m = m} r d) = (m, called r d, start-here)
      all_these (after_call r d) = one_more (all_these r) (rw d leads_call)
      all_these (at_next {l = l} r e) = one_more (all_these r) (next_way (decode T l) e)

pub reached-alike : ReachedAlike
reached-alike T good = record { only_these = only_these T good; all_these = all_these T good }
