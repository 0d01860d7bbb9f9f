-- The figure that is computed is the figure, or some quiet path has as many instructions as the cap.
use mathlib.Core.Bool.{Bool, true, false, ◌&&◌}
use mathlib.Core.List.{List, [], ◌∷◌, ◌++◌, Memᴰ}
use mathlib.Core.Logic.{◌⊎◌, inl, inr}
use mathlib.Core.Option.{Option, none, some}
use mathlib.Core.Path.{◌≡◌, refl, sym, ap, ◌∙◌}
use native.Mathlib.Decide.{dec_lt}
use native.Mathlib.Omega.{arith}
use Prim.Native.Nat.{ℕ, zero, suc, ◌+◌, ◌*◌, ◌≤◌, ◌<◌, max}
use lib.Dec.{eqb, ltb}
use lib.ListN.{length}
use borrow.Author.Tests.{eqb-true, eq-eqb, ltb-true, lt-ltb}
use Rattle.base.specs.Bools.{never, or, and, or₁, or₂, both}
use Rattle.std.specs.Prelude.{if◌then◌else◌}
use Rattle.base.specs.Common.{member}
use Rattle.events.specs.Events.{is}
use Rattle.machine.specs.Decode.{fetch, Instruction, invalid, jump, input, input_any, write, input_choice, call_rule, return, set_result, choice, end_choice, set_parameter, update, update_with, choose, choose_with, decode_at, decode}
use Rattle.figure.specs.Figure.{label_at, label_by, way_among, way_of, way_out, Leads, leads_jump, leads_input, leads_any, leads_write, leads_token, leads_call, leads_result, leads_choice, leads_parameter, leads_update, leads_update_with, leads_choose, leads_choose_with, Reached, at_start, further, End, over, back, Quiet, quiet, Does, does_jump, does_input, does_any, does_write, does_token, does_default, does_call_over, does_call, does_call_stop, does_return, does_result, does_choice, does_end, does_parameter, does_update, does_update_with, does_choose, does_choose_with, does_choose_stop, does_choose_with_stop, Goes, any_way, by_result, Bounds, Figure, Long}
use Rattle.figure.specs.Count.{value, raises, grow, grown, most, somes, truth, each, filter, Key, at, same_option, same_end, same_key, more, joined, is_over, over_in, is_back, backs, with_label, labels_from, labels_if, labels_of, ways_of, some_way, leads_to, from, locations, reaches, reached, result_of, results, ways_by, offer_at, offer, ends, keys, reachable, counts, below, greatest, figure_at}
use Rattle.figure.proofs.Growing.{stands, settles}

-- Greatest of two, and of many

max-is : (a b : ℕ) → (max a b ≡ a) ⊎ (max a b ≡ b)
max-is a b = elim (dec_lt a b) [ yes h ↦ inr (omega arith) | no h ↦ inl (omega arith) ]

record Of {A : Type 0} (as₁ : List A) (f : A → ℕ) : Type 0 where
  one : A
  in-them : Memᴰ one as₁
  is-most : most as₁ f ≡ f one

most-of : {A : Type 0} (as₁ : List A) (f : A → ℕ) → 0 < most as₁ f → Of as₁ f
unfolding most
most-of [] f h = absurd (omega arith)
most-of (a ∷ as₁) f h = elim (max-is (f a) (most as₁ f)) [
  | inl e ↦ record { one = a; in-them = mathlib.Core.List.Memᴰ.head refl; is-most = e }
  | inr e ↦ let z = most-of as₁ f (omega arith) in record { one = z.one; in-them = mathlib.Core.List.Memᴰ.tail z.in-them; is-most = e ∙ z.is-most }
]

most-le : {A : Type 0} {a : A} (as₁ : List A) (f : A → ℕ) → Memᴰ a as₁ → f a ≤ most as₁ f
unfolding most
most-le (b ∷ as₁) f (mathlib.Core.List.Memᴰ.head p) = rw p (omega arith)
most-le (b ∷ as₁) f (mathlib.Core.List.Memᴰ.tail i) = omega (arith, most-le as₁ f i)
most-le {A = A} {a = a} [] f x' = elim x' [ ]

truth-true : (b : Bool) → 0 < truth b → b ≡ true
unfolding truth
truth-true true h = refl
truth-true false h = absurd (omega arith)

true-truth : (b : Bool) → b ≡ true → truth b ≡ 1
unfolding truth
true-truth true e = refl
true-truth false e = never e

-- a number below the cap that cannot be raised has all that is offered
unraised : {K : Type 0} (same : K → K → Bool) (cap : ℕ) (offer : (K → ℕ) → K → ℕ) (es : List (K × ℕ)) (k : K) → raises same cap offer es k ≡ false → value same es k < cap
    → offer (value same es) k ≤ value same es k
unfolding raises
unraised same cap offer es k h c = elim (dec_lt (value same es k) (offer (value same es) k)) [
  | yes l ↦ let z : ◌≡◌ {A = Bool} true false = rw (lt-ltb (value same es k) cap c, lt-ltb (value same es k) (offer (value same es) k) l) at h in
      let y : ◌≡◌ {A = Bool} false true = sym z in
      never y
  | no l ↦ omega arith
]

-- Membership

in_left : {A : Type 0} {x : A} {l : List A} (m : List A) → Memᴰ x l → Memᴰ x (l ++ m)
in_left m (mathlib.Core.List.Memᴰ.head p) = mathlib.Core.List.Memᴰ.head p
in_left m (mathlib.Core.List.Memᴰ.tail i) = mathlib.Core.List.Memᴰ.tail (in_left m i)

in_right : {A : Type 0} {x : A} (l : List A) {m : List A} → Memᴰ x m → Memᴰ x (l ++ m)
in_right [] i = i
in_right (y ∷ l) i = mathlib.Core.List.Memᴰ.tail (in_right l i)

in_either : {A : Type 0} {x : A} (l m : List A) → Memᴰ x (l ++ m) → Memᴰ x l ⊎ Memᴰ x m
in_either [] m i = inr i
in_either (y ∷ l) m (mathlib.Core.List.Memᴰ.head p) = inl (mathlib.Core.List.Memᴰ.head p)
in_either (y ∷ l) m (mathlib.Core.List.Memᴰ.tail i) = elim (in_either l m i) [ inl j ↦ inl (mathlib.Core.List.Memᴰ.tail j) | inr j ↦ inr j ]

in-each : {A B : Type 0} {a : A} {b : B} (as₁ : List A) (f : A → List B) → Memᴰ a as₁ → Memᴰ b (f a) → Memᴰ b (each as₁ f)
unfolding each
in-each (c ∷ as₁) f (mathlib.Core.List.Memᴰ.head p) i = in_left (each as₁ f) (rw p at i)
in-each (c ∷ as₁) f (mathlib.Core.List.Memᴰ.tail j) i = in_right (f c) (in-each as₁ f j i)
in-each {A = A} {B = B} {a = a} {b = b} [] f x'' i = elim x'' [ ]

in-somes : {v : ℕ} {vs : List ℕ} → Memᴰ v vs → Memᴰ (some v) (somes vs)
unfolding somes
in-somes (mathlib.Core.List.Memᴰ.head p) = mathlib.Core.List.Memᴰ.head (ap some p)
in-somes (mathlib.Core.List.Memᴰ.tail i) = mathlib.Core.List.Memᴰ.tail (in-somes i)

in-backs : {x : Option ℕ} {xs : List (Option ℕ)} → Memᴰ x xs → Memᴰ (back x) (backs xs)
unfolding backs
in-backs (mathlib.Core.List.Memᴰ.head p) = mathlib.Core.List.Memᴰ.head (ap back p)
in-backs (mathlib.Core.List.Memᴰ.tail i) = mathlib.Core.List.Memᴰ.tail (in-backs i)

in-filter : {A : Type 0} {a : A} (p : A → Bool) (as₁ : List A) → Memᴰ a as₁ → p a ≡ true → Memᴰ a (filter p as₁)
unfolding filter
in-filter p (b ∷ as₁) (mathlib.Core.List.Memᴰ.head q) h =
    let z : p b ≡ true = rw q at h in
    rw z (mathlib.Core.List.Memᴰ.head q)
in-filter {A} {a} p (b ∷ as₁) (mathlib.Core.List.Memᴰ.tail i) h = go (p b) (in-filter p as₁ i h)
  where
    go : (t : Bool) → Memᴰ a (filter p as₁) → Memᴰ a (if t then b ∷ filter p as₁ else filter p as₁)
    go true j = mathlib.Core.List.Memᴰ.tail j
    go false j = j
in-filter {A = A} {a = a} p [] x'' h = elim x'' [ ]

filter-in : {A : Type 0} {a : A} (p : A → Bool) (as₁ : List A) → Memᴰ a (filter p as₁) → Memᴰ a as₁ × (p a ≡ true)
unfolding filter
filter-in p [] m = elim m [ ]
filter-in {A} {a} p (b ∷ as₁) m = go (p b) refl m (λ j. filter-in p as₁ j)
  where
    take : Memᴰ a (b ∷ filter p as₁) → p b ≡ true → (Memᴰ a (filter p as₁) → Memᴰ a as₁ × (p a ≡ true)) → Memᴰ a (b ∷ as₁) × (p a ≡ true)
    take (mathlib.Core.List.Memᴰ.head q) e ih = (mathlib.Core.List.Memᴰ.head q, rw q e)
    take (mathlib.Core.List.Memᴰ.tail j) e ih = let z = ih j in (mathlib.Core.List.Memᴰ.tail z.0, z.1)

    go : (t : Bool) → p b ≡ t → Memᴰ a (if t then b ∷ filter p as₁ else filter p as₁) → (Memᴰ a (filter p as₁) → Memᴰ a as₁ × (p a ≡ true)) → Memᴰ a (b ∷ as₁) × (p a ≡ true)
    go true e j ih = take j e ih
    go false e j ih = let z = ih j in (mathlib.Core.List.Memᴰ.tail z.0, z.1)

-- Keys

same-option : (x y : Option ℕ) → same_option x y ≡ true → x ≡ y
unfolding same_option
same-option none none e = refl
same-option none (some v) e = never e
same-option (some u) none e = never e
same-option (some u) (some v) e = ap some (eqb-true u v e)

option-self : (x : Option ℕ) → same_option x x ≡ true
unfolding same_option
option-self none = refl
option-self (some u) = eq-eqb u u refl

same_end_lem : (x y : End) → same_end x y ≡ true → x ≡ y
unfolding same_end
same_end_lem over over e = refl
same_end_lem over (back y) e = never e
same_end_lem (back x) over e = never e
same_end_lem (back x) (back y) e = ap back (same-option x y e)

end-self : (x : End) → same_end x x ≡ true
unfolding same_end
end-self over = refl
end-self (back x) = option-self x

same_key_lem : (j k : Key) → same_key j k ≡ true → j ≡ k
unfolding same_key
same_key_lem (at l x e) (at m y f) h =
    let a = and (eqb l m) (same_option x y && same_end e f) h in
    let b = and (same_option x y) (same_end e f) a.1 in
    rw (eqb-true l m a.0, same-option x y b.0, same_end_lem e f b.1) refl

key-self : (k : Key) → same_key k k ≡ true
unfolding same_key
key-self (at l x e) = both (eqb l l) (same_option x x && same_end e e) (eq-eqb l l refl) (both (same_option x x) (same_end e e) (option-self x) (end-self e))

-- Numbers of paths

more-pos : (n : ℕ) → 0 < more n → (0 < n) × (more n ≡ suc n)
unfolding more
more-pos zero h = absurd (omega arith)
more-pos (suc n) h = (omega arith, refl)

more-le : (n m : ℕ) → 0 < n → n ≤ m → suc n ≤ more m
unfolding more
more-le n zero h l = absurd (omega arith)
more-le n (suc m) h l = omega arith

joined-pos : (m n : ℕ) → 0 < joined m n → (0 < m) × (0 < n) × (joined m n ≡ suc (m + n))
unfolding joined
joined-pos zero n h = absurd (omega arith)
joined-pos (suc m) zero h = absurd (omega arith)
joined-pos (suc m) (suc n) h = (omega arith, omega arith, refl)

joined-le : (m n a b : ℕ) → 0 < m → 0 < n → m ≤ a → n ≤ b → suc (m + n) ≤ joined a b
unfolding joined
joined-le m n zero b h i l k = absurd (omega arith)
joined-le m n (suc a) zero h i l k = absurd (omega arith)
joined-le m n (suc a) (suc b) h i l k = omega arith

over-pos : (e : End) → 0 < is_over e → (e ≡ over) × (is_over e ≡ 1)
unfolding is_over
over-pos over h = (refl, refl)
over-pos (back y) h = absurd (omega arith)

back-pos : (x : Option ℕ) (e : End) → 0 < is_back x e → (e ≡ back x) × (is_back x e ≡ 1)
unfolding is_back
back-pos x over h = absurd (omega arith)
back-pos x (back y) h =
    let t = truth-true (same_option x y) h in
    (ap back (sym (same-option x y t)), true-truth (same_option x y) t)

module _ (T : List ℕ) where
  -- What is offered is a path

  -- at l with the instruction i, exactly n
  abbrev Is : ℕ → Option ℕ → Instruction → End → ℕ → Type 0
  Is l x i e n = Does T l x i n e

  as_long : {l n m : ℕ} {x : Option ℕ} {i : Instruction} {e : End} → n ≡ m → Does T l x i n e → Does T l x i m e
  as_long p d = rw (← p) d

  module _ (v : Key → ℕ) (h : (l : ℕ) (x : Option ℕ) (e : End) → 0 < v (at l x e) → Quiet T l x (v (at l x e)) e) where
    one_more : {l : ℕ} {x : Option ℕ} {i : Instruction} {e : End} (m : ℕ) (y : Option ℕ) → ((n : ℕ) → Quiet T m y n e → Does T l x i (suc n) e) → 0 < more (v (at m y e)) → Does T l x i (more (v (at m y e))) e
    one_more {e = e} m y f p =
        let z = more-pos (v (at m y e)) p in
        as_long (sym z.1) (f (v (at m y e)) (h m y e z.0))

    is_over_lem : {l : ℕ} {x : Option ℕ} {i : Instruction} (e : End) → Does T l x i 1 over → 0 < is_over e → Does T l x i (is_over e) e
    unfolding is_over
    is_over_lem over d p = d
    is_over_lem (back y) d p = absurd (omega arith)

    of_two : {l : ℕ} {x : Option ℕ} {i : Instruction} {e : End} (a b : ℕ) → (0 < a → Does T l x i a e) → (0 < b → Does T l x i b e) → 0 < max a b → Does T l x i (max a b) e
    of_two a b f g p = elim (max-is a b) [ inl z ↦ as_long (sym z) (f (omega arith)) | inr z ↦ as_long (sym z) (g (omega arith)) ]

    over-in : {l : ℕ} {x : Option ℕ} {s : ℕ} (e : End) (n : ℕ) → (0 < n → Quiet T s none n over) → 0 < over_in e n → Does T l x (call_rule s) (over_in e n) e
    unfolding over_in
    over-in over zero q p = does_call_stop
    over-in over (suc n) q p = does_call_over (q (omega arith))
    over-in (back y) n q p = absurd (omega arith)

    call_back : {l s : ℕ} {x : Option ℕ} {e : End} (xs : List (Option ℕ)) → 0 < most xs (λ y. joined (v (at s none (back y))) (v (at (l + 2) y e)))
        → Does T l x (call_rule s) (most xs (λ y. joined (v (at s none (back y))) (v (at (l + 2) y e)))) e
    call_back {l} {s} {x} {e} xs p =
        let o = most-of xs (λ y. joined (v (at s none (back y))) (v (at (l + 2) y e))) p in
        let y = o.one in
        let z = joined-pos (v (at s none (back y))) (v (at (l + 2) y e)) (omega (arith, o.is-most)) in
        as_long (sym (o.is-most ∙ z.2)) (does_call (h s none (back y) z.0) (h (l + 2) y e z.1) refl)

    ways : {l c : ℕ} {x : Option ℕ} {e : End} (us : List (Option ℕ)) → ((u : Option ℕ) → Memᴰ u us → Goes x u) → 0 < most us (λ u. more (v (at (way_out T c u) none e)))
        → Does T l x (choice c) (most us (λ u. more (v (at (way_out T c u) none e)))) e
    ways {c = c} {e = e} us g p =
        let o = most-of us (λ u. more (v (at (way_out T c u) none e))) p in
        let u = o.one in
        as_long (sym o.is-most) (one_more (way_out T c u) none (λ n q. does_choice u (g u o.in-them) q) (omega (arith, o.is-most)))

    goes_by : (x : Option ℕ) (c : ℕ) (u : Option ℕ) → Memᴰ u (ways_by T x c) → Goes x u
    unfolding ways_by
    goes_by none c u m = any_way
    goes_by (some w) c u (mathlib.Core.List.Memᴰ.head p) = rw p by_result
    goes_by (some w) c u (mathlib.Core.List.Memᴰ.tail i) = elim i [ ]

    is-return : {l : ℕ} (x : Option ℕ) (e : End) → 0 < is_back x e → Does T l x return (is_back x e) e
    is-return x e p =
        let z = back-pos x e p in
        as_long (sym z.1) (rw z.0 does_return)

    offered : (l : ℕ) (x : Option ℕ) (e : End) (i : Instruction) → 0 < offer_at T v l x e i → Does T l x i (offer_at T v l x e i) e
    unfolding offer_at
    offered l x e invalid p = absurd (omega arith)
    offered l x e (jump m) p = one_more m x (λ n q. does_jump q) p
    offered l x e (input t) p = is_over_lem e does_input p
    offered l x e input_any p = is_over_lem e does_any p
    offered l x e (write ev) p = one_more (l + 2) x (λ n q. does_write q) p
    offered l x e (input_choice c) p = of_two (is_over e) (more (v (at (way_out T c none) none e))) (is_over_lem e does_token) (one_more (way_out T c none) none (λ n q. does_default q)) p
    offered l x e (call_rule s) p = of_two (over_in e (v (at s none over))) (most (results T) (λ y. joined (v (at s none (back y))) (v (at (l + 2) y e)))) (over-in e (v (at s none over)) (h s none over)) (call_back (results T)) p
    offered l x e return p = is-return x e p
    offered l x e (set_result u) p = one_more (l + 2) (some u) (λ n q. does_result q) p
    offered l x e (choice c) p = ways (ways_by T x c) (goes_by x c) p
    offered l x e end_choice p = is_over_lem e does_end p
    offered l x e (set_parameter u) p = one_more (l + 2) x (λ n q. does_parameter q) p
    offered l x e (update op) p = one_more (l + 1) x (λ n q. does_update q) p
    offered l x e (update_with op) p = one_more (l + 1) x (λ n q. does_update_with q) p
    offered l x e (choose op) p = of_two (is_over e) (more (v (at (l + 1) none e))) (is_over_lem e does_choose_stop) (one_more (l + 1) none (λ n q. does_choose q)) p
    offered l x e (choose_with op) p = of_two (is_over e) (more (v (at (l + 1) none e))) (is_over_lem e does_choose_with_stop) (one_more (l + 1) none (λ n q. does_choose_with q)) p

  Path : Key → ℕ → Type 0
  Path (at l x e) n = Quiet T l x n e

  offer-path : (v : Key → ℕ) → ((k : Key) → 0 < v k → Path k (v k)) → (k : Key) → 0 < offer T v k → Path k (offer T v k)
  unfolding Path offer
  offer-path v h (at l x e) p = quiet (offered v (λ l x e p. h (at l x e) p) l x e (decode T l) p)

  -- every number is that of a path
  count-path : (cap : ℕ) (ls : List ℕ) (l : ℕ) (x : Option ℕ) (e : End) → 0 < value same_key (counts T cap ls) (at l x e) → Quiet T l x (value same_key (counts T cap ls) (at l x e)) e
  unfolding counts grown Path value
  count-path cap ls l x e p =
      stands same_key same_key_lem key-self cap (offer T) Path offer-path (keys T ls) (length (keys T ls) * cap) [] (λ k z. absurd (omega arith)) (at l x e) p

  -- Every path is counted

  -- where a choice goes by a value, it goes by one that is listed
  record Listed (c : ℕ) (u : Option ℕ) : Type 0 where
    by : Option ℕ
    listed : Memᴰ by (ways_of T c)
    same_way : way_out T c u ≡ way_out T c by

  label-in : (a n l : ℕ) → (label_at T a n l ≡ none) ⊎ Memᴰ a (labels_from T n l)
  unfolding label_at labels_from is with_label
  label-in a zero l = inl refl
  label-in a (suc n) l = go (fetch T l) (label-in a n (l + 2))
    where
      found : (b w : ℕ) (t : Bool) → eqb b w ≡ t → (label_at T b n (l + 2) ≡ none) ⊎ Memᴰ b (labels_from T n (l + 2))
          → ((if t then some (l + 1) else label_at T b n (l + 2)) ≡ none) ⊎ Memᴰ b (w ∷ labels_from T n (l + 2))
      found b w true e h = inr (mathlib.Core.List.Memᴰ.head (eqb-true b w e))
      found b w false e (inl z) = inl z
      found b w false e (inr z) = inr (mathlib.Core.List.Memᴰ.tail z)

      go : (f : Option ℕ) → (label_at T a n (l + 2) ≡ none) ⊎ Memᴰ a (labels_from T n (l + 2))
          → ((if is a f then some (l + 1) else label_at T a n (l + 2)) ≡ none) ⊎ Memᴰ a (with_label f (labels_from T n (l + 2)))
      go none h = h
      go (some w) h = found a w (eqb a w) refl h

  way-listed : (c : ℕ) (u : Option ℕ) → Listed c u
  unfolding way_out way_of label_by ways_of labels_of labels_if
  way-listed c none = record { by = none; listed = mathlib.Core.List.Memᴰ.head refl; same_way = refl }
  way-listed c (some a) = go (fetch T c) refl
    where
      among : (n : ℕ) → fetch T c ≡ some n → (label_at T a n (c + 1) ≡ none) ⊎ Memᴰ a (labels_from T n (c + 1)) → Listed c (some a)
      among n e (inl z) = record { by = none; listed = mathlib.Core.List.Memᴰ.head refl; same_way = rw e (ap (way_among T c n) z) }
      among n e (inr z) = record { by = some a; listed = mathlib.Core.List.Memᴰ.tail (in-somes {vs = labels_if T (fetch T c) c} (rw e z)); same_way = refl }

      go : (f : Option ℕ) → fetch T c ≡ f → Listed c (some a)
      go none e = record { by = none; listed = mathlib.Core.List.Memᴰ.head refl; same_way = rw e refl }
      go (some n) e = among n e (label-in a n (c + 1))

  in-from : (n l m : ℕ) → l ≤ m → m < l + n → Memᴰ m (from T n l)
  unfolding from
  in-from zero l m h i = absurd (omega arith)
  in-from (suc n) l m h i = elim (dec_lt l m) [ yes z ↦ mathlib.Core.List.Memᴰ.tail (in-from n (suc l) m (omega arith) (omega arith)) | no z ↦ let e : m ≡ l = omega arith in mathlib.Core.List.Memᴰ.head e ]

  Real : Instruction → Type 0
  Real invalid = ⊥
  Real (jump m) = Unit {0}
  Real (input t) = Unit {0}
  Real input_any = Unit {0}
  Real (write e) = Unit {0}
  Real (input_choice c) = Unit {0}
  Real (call_rule s) = Unit {0}
  Real return = Unit {0}
  Real (set_result v) = Unit {0}
  Real (choice c) = Unit {0}
  Real end_choice = Unit {0}
  Real (set_parameter v) = Unit {0}
  Real (update op) = Unit {0}
  Real (update_with op) = Unit {0}
  Real (choose op) = Unit {0}
  Real (choose_with op) = Unit {0}

  fetch-le : (S : List ℕ) (l w : ℕ) → fetch S l ≡ some w → (0 < l) × (l ≤ length S)
  unfolding fetch
  fetch-le S zero w h = let z : ◌≡◌ {A = ℕ} 0 1 = cc in absurd (omega arith)
  fetch-le [] (suc i) w h = let z : ◌≡◌ {A = ℕ} 0 1 = cc in absurd (omega arith)
  fetch-le (v ∷ S) (suc zero) w h = (omega arith, omega arith)
  fetch-le (v ∷ S) (suc (suc i)) w h = (omega arith, omega (arith, (fetch-le S (suc i) w h).1))

  real-in : (l : ℕ) → Real (decode T l) → Memᴰ l (locations T)
  unfolding Real decode decode_at locations
  real-in l r = go (fetch T l) refl r
    where
      go : (f : Option ℕ) → fetch T l ≡ f → Real (decode_at l f (fetch T (suc l))) → Memᴰ l (from T (length T) 1)
      go none e z = absurd z
      go (some w) e z = let y = fetch-le T l w e in in-from (length T) 1 l (omega (arith, y.0)) (omega (arith, y.1))

  does-real : {l n : ℕ} {x : Option ℕ} {i : Instruction} {e : End} → Does T l x i n e → Real i
  unfolding Real
  does-real (does_jump p) = tt
  does-real does_input = tt
  does-real does_any = tt
  does-real (does_write p) = tt
  does-real does_token = tt
  does-real (does_default p) = tt
  does-real (does_call_over p) = tt
  does-real (does_call p q j) = tt
  does-real does_call_stop = tt
  does-real does_return = tt
  does-real (does_result p) = tt
  does-real (does_choice v g p) = tt
  does-real does_end = tt
  does-real (does_parameter p) = tt
  does-real (does_update p) = tt
  does-real (does_update_with p) = tt
  does-real (does_choose p) = tt
  does-real (does_choose_with p) = tt
  does-real does_choose_stop = tt
  does-real does_choose_with_stop = tt

  quiet-in : {l n : ℕ} {x : Option ℕ} {e : End} → Quiet T l x n e → Memᴰ l (locations T)
  quiet-in (quiet {l = l} d) = real-in l (does-real d)

  back_in : (y : Option ℕ) (xs : List (Option ℕ)) → Memᴰ (back y) (backs xs) → Memᴰ y xs
  unfolding backs
  back_in y [] m = elim m [ ]
  back_in y (x ∷ xs) (mathlib.Core.List.Memᴰ.head p) = let z : y ≡ x = cc in mathlib.Core.List.Memᴰ.head z
  back_in y (x ∷ xs) (mathlib.Core.List.Memᴰ.tail i) = mathlib.Core.List.Memᴰ.tail (back_in y xs i)

  back-known : (y : Option ℕ) → Memᴰ (back y) (ends T) → Memᴰ y (results T)
  unfolding ends
  back-known y (mathlib.Core.List.Memᴰ.head p) = let z : ◌≡◌ {A = ℕ} 0 1 = cc in absurd (omega arith)
  back-known y (mathlib.Core.List.Memᴰ.tail i) = back_in y (results T) i

  over-in-ends : Memᴰ over (ends T)
  unfolding ends
  over-in-ends = mathlib.Core.List.Memᴰ.head refl

  none_in : Memᴰ none (results T)
  unfolding results
  none_in = mathlib.Core.List.Memᴰ.head refl

  result-in : (l u : ℕ) → decode T l ≡ set_result u → Memᴰ (some u) (results T)
  unfolding results result_of Real
  result-in l u d =
      let r : Real (decode T l) = rw d tt in
      let z : Memᴰ u (result_of T (decode T l)) = rw d (mathlib.Core.List.Memᴰ.head refl) in
      mathlib.Core.List.Memᴰ.tail (in-somes (in-each (locations T) (λ l. result_of T (decode T l)) (real-in l r) z))

  -- the places are closed, and so are the numbers
  pub record Complete (ls : List ℕ) (v : Key → ℕ) : Type 0 where
    pub onward : (l m : ℕ) → Memᴰ l ls → Leads T l (decode T l) m → Memᴰ m (locations T) → Memᴰ m ls
    pub called : (l s : ℕ) → Memᴰ l ls → decode T l ≡ call_rule s → Memᴰ s (locations T) → Memᴰ s ls
    pub settled : (l : ℕ) (x : Option ℕ) (e : End) → Memᴰ l ls → Memᴰ x (results T) → Memᴰ e (ends T) → offer_at T v l x e (decode T l) ≤ v (at l x e)

  module _ (ls : List ℕ) (v : Key → ℕ) (c : Complete ls v) where
    -- a path to an end that is listed, and counted
    pub record Counted (l : ℕ) (x : Option ℕ) (n : ℕ) (e : End) (k : ℕ) : Type 0 where
      pub listed-end : Memᴰ e (ends T)
      pub some-instruction : 0 < n
      pub counted : n ≤ k

    goes_to : (l m : ℕ) (i : Instruction) → decode T l ≡ i → Leads T l i m → Memᴰ l ls → Memᴰ m (locations T) → Memᴰ m ls
    goes_to l m i d h b t =
        let z : Leads T l (decode T l) m = rw d h in
        c.onward l m b z t

    one : {l : ℕ} {x : Option ℕ} → (k : ℕ) → 0 < k → Counted l x 1 over k
    one k h = record { listed-end = over-in-ends; some-instruction = omega arith; counted = omega arith }

    on_one : {l m n : ℕ} {x y : Option ℕ} {e : End} → Counted m y n e (v (at m y e)) → (k : ℕ) → more (v (at m y e)) ≤ k → Counted l x (suc n) e k
    on_one {m = m} {n = n} {y = y} {e = e} h k z =
        record { listed-end = h.listed-end; some-instruction = omega arith; counted = omega (arith, more-le n (v (at m y e)) h.some-instruction h.counted) }

    back-listed : (x : Option ℕ) → Memᴰ x (results T) → Memᴰ (back x) (ends T)
    unfolding ends
    back-listed x r = mathlib.Core.List.Memᴰ.tail (in-backs r)

    by_way : (l t : ℕ) (x u : Option ℕ) (e : End) → Goes x u → more (v (at (way_out T t u) none e)) ≤ offer_at T v l x e (choice t)
    unfolding offer_at ways_by
    by_way l t none u e any_way =
        let z = way-listed t u in
        rw z.same_way (most-le (ways_of T t) (λ w. more (v (at (way_out T t w) none e))) z.listed)
    by_way l t (some w) u e by_result = most-le (some w ∷ []) (λ w. more (v (at (way_out T t w) none e))) (mathlib.Core.List.Memᴰ.head refl)

    mutual
      unfolding offer_at is_over over_in is_back truth

      pub quiet-counted : {l n : ℕ} {x : Option ℕ} {e : End} → Quiet T l x n e → Memᴰ l ls → Memᴰ x (results T) → Counted l x n e (v (at l x e))
      quiet-counted (quiet {l = l} {n = n} {x = x} {e = e} d) b r =
          let z = does-counted d refl b r in
          record { listed-end = z.listed-end; some-instruction = z.some-instruction; counted = omega (arith, z.counted, c.settled l x e b r z.listed-end) }

      does-counted : {l n : ℕ} {x : Option ℕ} {i : Instruction} {e : End} → Does T l x i n e → decode T l ≡ i → Memᴰ l ls → Memᴰ x (results T) → Counted l x n e (offer_at T v l x e i)
      does-counted (does_jump {l = l} {m = m} p) d b r = on_one (quiet-counted p (goes_to l m _ d leads_jump b (quiet-in p)) r) _ (omega arith)
      does-counted does_input d b r = one _ (omega arith)
      does-counted does_any d b r = one _ (omega arith)
      does-counted (does_write {l = l} p) d b r = on_one (quiet-counted p (goes_to l (l + 2) _ d leads_write b (quiet-in p)) r) _ (omega arith)
      does-counted does_token d b r = one _ (omega arith)
      does-counted (does_default {l = l} {c = t} p) d b r = on_one (quiet-counted p (goes_to l (way_out T t none) _ d (leads_token none) b (quiet-in p)) none_in) _ (omega arith)
      does-counted (does_call_over {l = l} {s = s} {n = n} p) d b r =
          let z = quiet-counted p (c.called l s b d (quiet-in p)) none_in in
          record { listed-end = over-in-ends; some-instruction = omega arith; counted = omega (arith, z.counted) }
      does-counted (does_call {l = l} {s = s} {m = m} {n = n} {y = y} {e = e} p q j) d b r =
          let z = quiet-counted p (c.called l s b d (quiet-in p)) none_in in
          let k = back-known y z.listed-end in
          let w = quiet-counted q (goes_to l (l + 2) _ d leads_call b (quiet-in q)) k in
          let a = joined-le m n (v (at s none (back y))) (v (at (l + 2) y e)) z.some-instruction w.some-instruction z.counted w.counted in
          let t = most-le (results T) (λ y. joined (v (at s none (back y))) (v (at (l + 2) y e))) k in
          record { listed-end = w.listed-end; some-instruction = omega arith; counted = omega (arith, a, t, j) }
      does-counted does_call_stop d b r = one _ (omega arith)
      does-counted (does_return {x = x}) d b r = record { listed-end = back-listed x r; some-instruction = omega arith; counted = rw (option-self x) (omega arith) }
      does-counted (does_result {l = l} {v = u} p) d b r = on_one (quiet-counted p (goes_to l (l + 2) _ d leads_result b (quiet-in p)) (result-in l u d)) _ (omega arith)
      does-counted (does_choice {l = l} {x = x} {c = t} {e = e} u g p) d b r =
          let z = quiet-counted p (goes_to l (way_out T t u) _ d (leads_choice u) b (quiet-in p)) none_in in
          on_one z _ (by_way l t x u e g)
      does-counted does_end d b r = one _ (omega arith)
      does-counted (does_parameter {l = l} p) d b r = on_one (quiet-counted p (goes_to l (l + 2) _ d leads_parameter b (quiet-in p)) r) _ (omega arith)
      does-counted (does_update {l = l} p) d b r = on_one (quiet-counted p (goes_to l (l + 1) _ d leads_update b (quiet-in p)) r) _ (omega arith)
      does-counted (does_update_with {l = l} p) d b r = on_one (quiet-counted p (goes_to l (l + 1) _ d leads_update_with b (quiet-in p)) r) _ (omega arith)
      does-counted (does_choose {l = l} p) d b r = on_one (quiet-counted p (goes_to l (l + 1) _ d leads_choose b (quiet-in p)) none_in) _ (omega arith)
      does-counted (does_choose_with {l = l} p) d b r = on_one (quiet-counted p (goes_to l (l + 1) _ d leads_choose_with b (quiet-in p)) none_in) _ (omega arith)
      does-counted does_choose_stop d b r = one _ (omega arith)
      does-counted does_choose_with_stop d b r = one _ (omega arith)

  -- a path that knows the result is also one that does not

  record Unknown (l n : ℕ) : Type 0 where
    end : End
    path : Quiet T l none n end

  record UnknownDoes (l : ℕ) (i : Instruction) (n : ℕ) : Type 0 where
    end : End
    does : Does T l none i n end

  mutual
    unknown : {l n : ℕ} {x : Option ℕ} {e : End} → Quiet T l x n e → Unknown l n
    unknown (quiet d) = let z = unknown-does d in record { end = z.end; path = quiet z.does }

    unknown-does : {l n : ℕ} {x : Option ℕ} {i : Instruction} {e : End} → Does T l x i n e → UnknownDoes l i n
    unknown-does (does_jump p) = let z = unknown p in record { end = z.end; does = does_jump z.path }
    unknown-does does_input = record { end = over; does = does_input }
    unknown-does does_any = record { end = over; does = does_any }
    unknown-does (does_write p) = let z = unknown p in record { end = z.end; does = does_write z.path }
    unknown-does does_token = record { end = over; does = does_token }
    unknown-does (does_default {e = e} p) = record { end = e; does = does_default p }
    unknown-does (does_call_over p) = record { end = over; does = does_call_over p }
    unknown-does (does_call {e = e} p q j) = record { end = e; does = does_call p q j }
    unknown-does does_call_stop = record { end = over; does = does_call_stop }
    unknown-does does_return = record { end = back none; does = does_return }
    unknown-does (does_result {e = e} p) = record { end = e; does = does_result p }
    unknown-does (does_choice {e = e} v g p) = record { end = e; does = does_choice v any_way p }
    unknown-does does_end = record { end = over; does = does_end }
    unknown-does (does_parameter p) = let z = unknown p in record { end = z.end; does = does_parameter z.path }
    unknown-does (does_update p) = let z = unknown p in record { end = z.end; does = does_update z.path }
    unknown-does (does_update_with p) = let z = unknown p in record { end = z.end; does = does_update_with z.path }
    unknown-does (does_choose {e = e} p) = record { end = e; does = does_choose p }
    unknown-does (does_choose_with {e = e} p) = record { end = e; does = does_choose_with p }
    unknown-does does_choose_stop = record { end = over; does = does_choose_stop }
    unknown-does does_choose_with_stop = record { end = over; does = does_choose_with_stop }

  -- Reachable places

  some-way : (us : List (Option ℕ)) (c m : ℕ) {u : Option ℕ} → Memᴰ u us → way_out T c u ≡ m → some_way T us c m ≡ true
  unfolding some_way
  some-way (w ∷ us) c m {u} (mathlib.Core.List.Memᴰ.head p) e = or₁ (eqb (way_out T c w) m) (some_way T us c m) (eq-eqb (way_out T c w) m (rw p at e))
  some-way (w ∷ us) c m (mathlib.Core.List.Memᴰ.tail i) e = or₂ (eqb (way_out T c w) m) (some_way T us c m) (some-way us c m i e)
  some-way [] c m {u = u} x'' e = elim x'' [ ]

  way-some : (us : List (Option ℕ)) (c m : ℕ) → some_way T us c m ≡ true → (u : Option ℕ) × (way_out T c u ≡ m)
  unfolding some_way
  way-some [] c m e = never e
  way-some (w ∷ us) c m e = elim (or (eqb (way_out T c w) m) (some_way T us c m) e) [ inl z ↦ (w, eqb-true (way_out T c w) m z) | inr z ↦ way-some us c m z ]

  leads-true : {l m : ℕ} {i : Instruction} → Leads T l i m → leads_to T l i m ≡ true
  unfolding leads_to
  leads-true (leads_jump {m = m}) = eq-eqb m m refl
  leads-true {l} leads_input = eq-eqb (l + 2) (l + 2) refl
  leads-true {l} leads_any = eq-eqb (l + 1) (l + 1) refl
  leads-true {l} leads_write = eq-eqb (l + 2) (l + 2) refl
  leads-true (leads_token {c = c} v) = let z = way-listed c v in some-way (ways_of T c) c (way_out T c v) z.listed (sym z.same_way)
  leads-true {l} leads_call = eq-eqb (l + 2) (l + 2) refl
  leads-true {l} leads_result = eq-eqb (l + 2) (l + 2) refl
  leads-true (leads_choice {c = c} v) = let z = way-listed c v in some-way (ways_of T c) c (way_out T c v) z.listed (sym z.same_way)
  leads-true {l} leads_parameter = eq-eqb (l + 2) (l + 2) refl
  leads-true {l} leads_update = eq-eqb (l + 1) (l + 1) refl
  leads-true {l} leads_update_with = eq-eqb (l + 1) (l + 1) refl
  leads-true {l} leads_choose = eq-eqb (l + 1) (l + 1) refl
  leads-true {l} leads_choose_with = eq-eqb (l + 1) (l + 1) refl

  leads-at : {l a m : ℕ} {i : Instruction} → a ≡ m → Leads T l i a → Leads T l i m
  leads-at e h = rw (← e) h

  leads-is : (l m : ℕ) (i : Instruction) → leads_to T l i m ≡ true → Leads T l i m
  unfolding leads_to
  leads-is l m invalid e = never e
  leads-is l m (jump k) e = leads-at (eqb-true k m e) leads_jump
  leads-is l m (input t) e = leads-at (eqb-true (l + 2) m e) leads_input
  leads-is l m input_any e = leads-at (eqb-true (l + 1) m e) leads_any
  leads-is l m (write ev) e = leads-at (eqb-true (l + 2) m e) leads_write
  leads-is l m (input_choice c) e = let z = way-some (ways_of T c) c m e in leads-at z.1 (leads_token z.0)
  leads-is l m (call_rule s) e = leads-at (eqb-true (l + 2) m e) leads_call
  leads-is l m return e = never e
  leads-is l m (set_result v) e = leads-at (eqb-true (l + 2) m e) leads_result
  leads-is l m (choice c) e = let z = way-some (ways_of T c) c m e in leads-at z.1 (leads_choice z.0)
  leads-is l m end_choice e = never e
  leads-is l m (set_parameter v) e = leads-at (eqb-true (l + 2) m e) leads_parameter
  leads-is l m (update op) e = leads-at (eqb-true (l + 1) m e) leads_update
  leads-is l m (update_with op) e = leads-at (eqb-true (l + 1) m e) leads_update_with
  leads-is l m (choose op) e = leads-at (eqb-true (l + 1) m e) leads_choose
  leads-is l m (choose_with op) e = leads-at (eqb-true (l + 1) m e) leads_choose_with

  leads-real : {l m : ℕ} {i : Instruction} → Leads T l i m → Real i
  unfolding Real
  leads-real leads_jump = tt
  leads-real leads_input = tt
  leads-real leads_any = tt
  leads-real leads_write = tt
  leads-real (leads_token v) = tt
  leads-real leads_call = tt
  leads-real leads_result = tt
  leads-real (leads_choice v) = tt
  leads-real leads_parameter = tt
  leads-real leads_update = tt
  leads-real leads_update_with = tt
  leads-real leads_choose = tt
  leads-real leads_choose_with = tt

  module _ (starts : List ℕ) where
    abbrev pub Start : ℕ → Type 0
    Start s = member s starts ≡ true

    pub record From (m : ℕ) : Type 0 where
      pub start : ℕ
      pub is_start : Start start
      pub way : Reached T start m

    reach_step : (v : ℕ → ℕ) → ((k : ℕ) → 0 < v k → From k) → (m : ℕ) → 0 < reaches T starts v m → From m
    unfolding reaches
    reach_step v h m p = elim (max-is (truth (member m starts)) (most (locations T) (λ l. truth (ltb 0 (v l) && leads_to T l (decode T l) m)))) [
      | inl e ↦ record { start = m; is_start = truth-true (member m starts) (omega arith); way = at_start }
      | inr e ↦ let o = most-of (locations T) (λ l. truth (ltb 0 (v l) && leads_to T l (decode T l) m)) (omega arith) in
          let l = o.one in
          let z = and (ltb 0 (v l)) (leads_to T l (decode T l) m) (truth-true (ltb 0 (v l) && leads_to T l (decode T l) m) (omega (arith, o.is-most))) in
          let y = h l (ltb-true 0 (v l) z.0) in
          record { start = y.start; is_start = y.is_start; way = further y.way (leads-is l m (decode T l) z.1) }
    ]

    reached-from : (m : ℕ) → 0 < value eqb (reached T starts) m → From m
    unfolding reached grown value
    reached-from m p = stands eqb eqb-true (λ a. eq-eqb a a refl) 1 (reaches T starts) (λ m n. From m) reach_step (locations T) (length (locations T) * 1) [] (λ k z. absurd (omega arith)) m p

    reached-more : (m : ℕ) → Memᴰ m (locations T) → 0 < reaches T starts (value eqb (reached T starts)) m → 0 < value eqb (reached T starts) m
    unfolding reached grown
    reached-more m i p = elim (dec_lt 0 (value eqb (reached T starts) m)) [
      | yes z ↦ z
      | no z ↦ let es = grow eqb 1 (reaches T starts) (locations T) (length (locations T) * 1) [] in
          absurd (omega (arith, unraised eqb 1 (reaches T starts) es m (settles eqb eqb-true (λ a. eq-eqb a a refl) 1 (reaches T starts) (locations T) i) (omega arith)))
    ]

    reach-start : (s : ℕ) → Start s → Memᴰ s (locations T) → 0 < value eqb (reached T starts) s
    unfolding reaches
    reach-start s h i = reached-more s i (omega (arith, true-truth (member s starts) h))

    reach-on : (l m : ℕ) → Memᴰ l (locations T) → 0 < value eqb (reached T starts) l → Leads T l (decode T l) m → Memᴰ m (locations T) → 0 < value eqb (reached T starts) m
    unfolding reaches
    reach-on l m i h c j =
        let z = true-truth (ltb 0 (value eqb (reached T starts) l) && leads_to T l (decode T l) m) (both (ltb 0 (value eqb (reached T starts) l)) (leads_to T l (decode T l) m) (lt-ltb 0 (value eqb (reached T starts) l) h) (leads-true c)) in
        reached-more m j (omega (arith, z, most-le (locations T) (λ l. truth (ltb 0 (value eqb (reached T starts) l) && leads_to T l (decode T l) m)) i))

    all-reached : {s l : ℕ} → Start s → Reached T s l → Memᴰ l (locations T) → 0 < value eqb (reached T starts) l
    all-reached {s} h at_start i = reach-start s h i
    all-reached h (further {l = l} {m = m} r c) i = let j = real-in l (leads-real c) in reach-on l m j (all-reached h r j) c i

    in-places : (m : ℕ) → Memᴰ m (locations T) → 0 < value eqb (reached T starts) m → Memᴰ m (reachable T starts)
    unfolding reachable
    in-places m i h = in-filter (λ l. ltb 0 (value eqb (reached T starts) l)) (locations T) i (lt-ltb 0 (value eqb (reached T starts) m) h)

    place-in : (m : ℕ) → Memᴰ m (reachable T starts) → Memᴰ m (locations T) × (0 < value eqb (reached T starts) m)
    unfolding reachable
    place-in m i = let z = filter-in (λ l. ltb 0 (value eqb (reached T starts) l)) (locations T) i in (z.0, ltb-true 0 (value eqb (reached T starts) m) z.1)

    -- The figure

    key_in : (ls : List ℕ) (l : ℕ) (x : Option ℕ) (e : End) → Memᴰ l ls → Memᴰ x (results T) → Memᴰ e (ends T) → Memᴰ (at l x e) (keys T ls)
    unfolding keys
    key_in ls l x e a b c =
        in-each ls (λ l. each (results T) (λ x. each (ends T) (λ e. at l x e ∷ []))) a
        (in-each (results T) (λ x. each (ends T) (λ e. at l x e ∷ [])) b
        (in-each (ends T) (λ e. at l x e ∷ []) c (mathlib.Core.List.Memᴰ.head refl)))

    below_all : (cap : ℕ) (ks : List Key) (v : Key → ℕ) → below T cap ks v ≡ true → {k : Key} → Memᴰ k ks → v k < cap
    unfolding below
    below_all cap (j ∷ ks) v e {k} m = go (ltb (v j) cap) refl e m (λ h i. below_all cap ks v h i)
      where
        go : (t : Bool) → ltb (v j) cap ≡ t → (if t then below T cap ks v else false) ≡ true → Memᴰ k (j ∷ ks) → (below T cap ks v ≡ true → Memᴰ k ks → v k < cap) → v k < cap
        go true d h (mathlib.Core.List.Memᴰ.head p) ih = rw p (ltb-true (v j) cap d)
        go true d h (mathlib.Core.List.Memᴰ.tail i) ih = ih h i
        go false d h m₁ ih = never h
    below_all cap [] v e {k = k} m = elim m [ ]

    -- a key that has come to the cap
    record Capped (cap : ℕ) (ks : List Key) (v : Key → ℕ) : Type 0 where
      key : Key
      in-keys : Memᴰ key ks
      much : cap ≤ v key

    not-below : (cap : ℕ) (ks : List Key) (v : Key → ℕ) → below T cap ks v ≡ false → Capped cap ks v
    unfolding below
    not-below cap [] v e = let z : ◌≡◌ {A = Bool} false true = sym e in never z
    not-below cap (j ∷ ks) v e = elim (dec_lt (v j) cap) [
      | yes l ↦ let z = not-below cap ks v (rw (lt-ltb (v j) cap l) at e) in record { key = z.key; in-keys = mathlib.Core.List.Memᴰ.tail z.in-keys; much = z.much }
      | no l ↦ record { key = j; in-keys = mathlib.Core.List.Memᴰ.head refl; much = omega arith }
    ]

    only-key : {l m : ℕ} {x y : Option ℕ} {e f : End} → Memᴰ (at l x e) (at m y f ∷ []) → l ≡ m
    only-key (mathlib.Core.List.Memᴰ.head p) = cc
    only-key (mathlib.Core.List.Memᴰ.tail i) = elim i [ ]

    each_in : {A B : Type 0} (as₁ : List A) (f : A → List B) {b : B} → Memᴰ b (each as₁ f) → (a : A) × Memᴰ a as₁ × Memᴰ b (f a)
    unfolding each
    each_in [] f m = elim m [ ]
    each_in (a ∷ as₁) f {b} m = elim (in_either (f a) (each as₁ f) m) [
      | inl i ↦ (a, mathlib.Core.List.Memᴰ.head refl, i)
      | inr i ↦ let z = each_in as₁ f i in (z.0, mathlib.Core.List.Memᴰ.tail z.1, z.2)
    ]

    module _ (calls : (l s : ℕ) → From l → decode T l ≡ call_rule s → Start s) (cap : ℕ) where
      abbrev Places : List ℕ
      Places = reachable T starts

      complete : below T cap (keys T Places) (value same_key (counts T cap Places)) ≡ true → Complete Places (value same_key (counts T cap Places))
      unfolding counts grown offer
      complete e = record {
        onward = λ l m i c j. let z = place-in l i in in-places m j (reach-on l m z.0 z.1 c j);
        called = λ l s i d j. in-places s j (reach-start s (calls l s (reached-from l (place-in l i).1) d) j);
        settled = λ l x e₁ a b c.
            let k = key_in Places l x e₁ a b c in
            let es = grow same_key cap (offer T) (keys T Places) (length (keys T Places) * cap) [] in
            unraised same_key cap (offer T) es (at l x e₁) (settles same_key same_key_lem key-self cap (offer T) (keys T Places) k) (below_all cap (keys T Places) (value same_key (counts T cap Places)) e k);
      }

      figure_is : (q : ℕ) → figure_at T cap Places ≡ some q → (below T cap (keys T Places) (value same_key (counts T cap Places)) ≡ true) × (q ≡ greatest T Places (value same_key (counts T cap Places)))
      unfolding figure_at
      figure_is q e = go (below T cap (keys T Places) (value same_key (counts T cap Places))) refl e
        where
          go : (t : Bool) → below T cap (keys T Places) (value same_key (counts T cap Places)) ≡ t → (if t then some (greatest T Places (value same_key (counts T cap Places))) else none) ≡ some q
              → (below T cap (keys T Places) (value same_key (counts T cap Places)) ≡ true) × (q ≡ greatest T Places (value same_key (counts T cap Places)))
          go true d h = let z : q ≡ greatest T Places (value same_key (counts T cap Places)) = cc in (d, z)
          go false d h = let z : ◌≡◌ {A = ℕ} 0 1 = cc in absurd (omega arith)

      long-key : 0 < cap → (k : Key) → Memᴰ k (keys T Places) → cap ≤ value same_key (counts T cap Places) k → Long T Start cap
      unfolding keys
      long-key h (at l x e) m c =
          let a = each_in Places (λ l. each (results T) (λ x. each (ends T) (λ e. at l x e ∷ []))) m in
          let b = each_in (results T) (λ x. each (ends T) (λ e. at a.0 x e ∷ [])) a.2 in
          let d = each_in (ends T) (λ e. at a.0 b.0 e ∷ []) b.2 in
          let z : l ≡ a.0 = only-key d.2 in
          let p = unknown (count-path cap Places l x e (omega arith)) in
          let f : From l = rw z (reached-from a.0 (place-in a.0 a.1).1) in
          record { start = f.start; location = l; end = p.end; count = value same_key (counts T cap Places) (at l x e); is_start = f.is_start; reached = f.way; path = p.path; long = c }

      -- without a figure some path is as long as the cap
      pub counted-long : 0 < cap → figure_at T cap Places ≡ none → Long T Start cap
      unfolding figure_at
      counted-long h e = go (below T cap (keys T Places) (value same_key (counts T cap Places))) refl e
        where
          go : (t : Bool) → below T cap (keys T Places) (value same_key (counts T cap Places)) ≡ t → (if t then some (greatest T Places (value same_key (counts T cap Places))) else none) ≡ none → Long T Start cap
          go true d z = let y : ◌≡◌ {A = ℕ} 0 1 = cc in absurd (omega arith)
          go false d z = let k = not-below cap (keys T Places) (value same_key (counts T cap Places)) d in long-key h k.key k.in-keys k.much

      -- no quiet path from a reachable place has more
      pub counted-bounds : (q : ℕ) → figure_at T cap Places ≡ some q → Bounds T Start q
      unfolding greatest
      counted-bounds q e =
          let z = figure_is q e in
          let c = complete z.0 in
          record {
            most = λ {s} {l} {n} {e = en} st r p.
                let i = quiet-in p in
                let m = in-places l i (all-reached st r i) in
                let k = quiet-counted Places (value same_key (counts T cap Places)) c p m none_in in
                let a = most-le (ends T) (λ e. value same_key (counts T cap Places) (at l none e)) k.listed-end in
                let b = most-le Places (λ l. most (ends T) (λ e. value same_key (counts T cap Places) (at l none e))) m in
                omega (arith, k.counted, a, b, z.1);
          }

      -- and one has as many
      pub counted-figure : (q : ℕ) → figure_at T cap Places ≡ some q → 0 < q → Figure T Start q
      unfolding greatest
      counted-figure q e h =
          let z = figure_is q e in
          let o = most-of Places (λ l. most (ends T) (λ e. value same_key (counts T cap Places) (at l none e))) (omega (arith, z.1)) in
          let l = o.one in
          let u = most-of (ends T) (λ e. value same_key (counts T cap Places) (at l none e)) (omega (arith, z.1, o.is-most)) in
          let w = u.one in
          let s : value same_key (counts T cap Places) (at l none w) ≡ q = sym (z.1 ∙ o.is-most ∙ u.is-most) in
          let p = count-path cap Places l none w (omega (arith, s)) in
          let f = reached-from l (place-in l o.in-them).1 in
          record { bounds = counted-bounds q e; start = f.start; location = l; end = w; is_start = f.is_start; reached = f.way; path = rw s at p }

      -- and so q is below the cap
      pub counted-small : (q : ℕ) → figure_at T cap Places ≡ some q → 0 < q → q < cap
      unfolding greatest
      counted-small q e h =
          let z = figure_is q e in
          let o = most-of Places (λ l. most (ends T) (λ e. value same_key (counts T cap Places) (at l none e))) (omega (arith, z.1)) in
          let u = most-of (ends T) (λ e. value same_key (counts T cap Places) (at o.one none e)) (omega (arith, z.1, o.is-most)) in
          let k = key_in Places o.one none u.one o.in-them none_in u.in-them in
          omega (arith, z.1, o.is-most, u.is-most, below_all cap (keys T Places) (value same_key (counts T cap Places)) z.0 k)
